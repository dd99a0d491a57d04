-- Trim, then fold, is the page's fold, then trim: by induction over a text's runs of gap bytes, which `folded` takes one at a time.
use mathlib.Core.Path.{◌≡◌, refl, sym, ap, ◌∙◌}
use mathlib.Core.Bool.{Bool, true, false, false≢true}
use mathlib.Core.List.{List, [], ◌∷◌, ◌++◌}
use Prim.Native.Nat.{ℕ, zero, suc, ◌-◌, ◌≤◌}
use native.Mathlib.Omega.{arith}
use lib.ListN.{length, take, drop, length-append, take-append-drop}
use lib.Seq.{take-append_seam, drop-append_seam}
use Rattle.octets.specs.Classes.{is_blank, is_break, is_gap}
use Rattle.octets.specs.Scans.{run, all, any}
use Rattle.octets.proofs.Runs.{run_yes, run_no, run_nil, run_all, run_after, run_exact}
use Rattle.sip.specs.Lines.{joined, folded, unless_last, trim_end, trim, canonical}

-- ---- one run at a time

pub pass : (k : ℕ) (s : List ℕ) → folded k s ≡ folded 0 (drop k s)
unfolding folded
pass zero s = refl
pass (suc k) [] = refl
pass (suc k) (b ∷ s) = pass k s

pub folded_byte : (b : ℕ) (s : List ℕ) → is_gap b ≡ false → folded 0 (b ∷ s) ≡ b ∷ folded 0 s
unfolding folded
folded_byte b s e = rw e

pub folded_run : (s : List ℕ) → folded 0 s ≡ joined (take (run is_gap s) s) ++ folded 0 (drop (run is_gap s) s)
unfolding folded joined any
folded_run [] = rw (run_nil is_gap)
folded_run (b ∷ s) = go (is_gap b) refl
  where
    go : (t : Bool) → is_gap b ≡ t
        → folded 0 (b ∷ s) ≡ joined (take (run is_gap (b ∷ s)) (b ∷ s)) ++ folded 0 (drop (run is_gap (b ∷ s)) (b ∷ s))
    go true e =
        let z : suc (run is_gap s) - 1 ≡ run is_gap s = omega arith in
        rw (e, run_yes is_gap b s e, z, pass (run is_gap s) s)
    go false e = rw (run_no is_gap b s e, e)

-- what holds of nothing, stays when a byte that is no gap comes before, and when a run does, holds of every text
pub by_runs : (P : List ℕ → Type 0) → P [] → ((b : ℕ) (s : List ℕ) → is_gap b ≡ false → P s → P (b ∷ s))
    → ((s : List ℕ) → P (drop (run is_gap s) s) → P s) → (s : List ℕ) → P s
by_runs P none byte gap s = from 0 s
  where
    from : (k : ℕ) (s : List ℕ) → P (drop k s)
    from zero [] = none
    from (suc k) [] = none
    from (suc k) (b ∷ s) = from k s
    from zero (b ∷ s) = go (is_gap b) refl (from 0 s) (from (run is_gap s) s)
      where
        go : (t : Bool) → is_gap b ≡ t → P s → P (drop (run is_gap s) s) → P (b ∷ s)
        go true e h f = gap (b ∷ s) (rw (run_yes is_gap b s e) f)
        go false e h f = byte b s e h

-- ---- a run is joined to blanks

all_first : (p : ℕ → Bool) (b : ℕ) (s : List ℕ) → all p (b ∷ s) ≡ true → (p b ≡ true) × (all p s ≡ true)
unfolding all
all_first p b s e = go (p b) refl
  where
    go : (t : Bool) → p b ≡ t → (p b ≡ true) × (all p s ≡ true)
    go true q = (q, rw q at e)
    go false q = absurd (false≢true (rw q at e))

gap_blank : (b : ℕ) → is_gap b ≡ true → is_break b ≡ false → is_blank b ≡ true
unfolding is_gap
gap_blank b e n = go (is_blank b) refl
  where
    go : (t : Bool) → is_blank b ≡ t → is_blank b ≡ true
    go true q = q
    go false q = absurd (false≢true (rw (q, n) at e))

gap_no : (b : ℕ) → is_gap b ≡ false → is_blank b ≡ false
unfolding is_gap
gap_no b e = go (is_blank b) refl
  where
    go : (t : Bool) → is_blank b ≡ t → is_blank b ≡ false
    go true q = absurd (false≢true (sym (rw q at e)))
    go false q = q

pub any_first : (p : ℕ → Bool) (b : ℕ) (s : List ℕ) → any p (b ∷ s) ≡ false → (p b ≡ false) × (any p s ≡ false)
unfolding any
any_first p b s e = go (p b) refl
  where
    go : (t : Bool) → p b ≡ t → (p b ≡ false) × (any p s ≡ false)
    go true q = absurd (false≢true (sym (rw q at e)))
    go false q = (q, rw q at e)

no_break : (g : List ℕ) → all is_gap g ≡ true → any is_break g ≡ false → all is_blank g ≡ true
unfolding all
no_break [] a n = refl
no_break (b ∷ g) a n =
    let x : (is_gap b ≡ true) × (all is_gap g ≡ true) = all_first is_gap b g a in
    let y : (is_break b ≡ false) × (any is_break g ≡ false) = any_first is_break b g n in
    rw (gap_blank b x.0 y.0) (no_break g x.1 y.1)

joined_blank : (g : List ℕ) → all is_gap g ≡ true → all is_blank (joined g) ≡ true
unfolding joined all is_blank
joined_blank g a = go (any is_break g) refl
  where
    go : (t : Bool) → any is_break g ≡ t → all is_blank (joined g) ≡ true
    go true e = rw e
    go false e = rw e (no_break g a e)

-- ---- what is trimmed

-- g before s, and nothing where s is nothing
abbrev before : List ℕ → List ℕ → List ℕ
before g [] = []
before g (c ∷ s) = g ++ c ∷ s

trim_before : (p : ℕ → Bool) (g s : List ℕ) → all p g ≡ true → trim_end p (g ++ s) ≡ before g (trim_end p s)
unfolding trim_end
trim_before p [] s a = go (trim_end p s)
  where
    go : (y : List ℕ) → y ≡ before [] y
    go [] = refl
    go (c ∷ y) = refl
trim_before p (b ∷ g) s a = rw (trim_before p g s (all_first p b g a).1) (go g (trim_end p s))
  where
    go : (g y : List ℕ) → unless_last p b (before g y) ≡ before (b ∷ g) y
    go g [] = rw (all_first p b _ a).0
    go [] (c ∷ y) = refl
    go (d ∷ g) (c ∷ y) = refl

last_stays : (p : ℕ → Bool) (b : ℕ) (y : List ℕ) → p b ≡ false → unless_last p b y ≡ b ∷ y
last_stays p b [] e = rw e
last_stays p b (c ∷ y) e = refl

-- a text that starts with none of the class
trim_stays : (p : ℕ → Bool) (b : ℕ) (s : List ℕ) → p b ≡ false → trim_end p (b ∷ s) ≡ b ∷ trim_end p s
unfolding trim_end
trim_stays p b s e = last_stays p b (trim_end p s) e

trim_run : (p : ℕ → Bool) (s : List ℕ) → run p s ≡ 0 → run p (trim_end p s) ≡ 0
unfolding trim_end
trim_run p [] e = e
trim_run p (b ∷ s) e = go (p b) refl
  where
    go : (t : Bool) → p b ≡ t → run p (trim_end p (b ∷ s)) ≡ 0
    go true q = absurd (omega (arith, run_yes p b s q))
    go false q = rw (trim_stays p b s q) (run_no p b (trim_end p s) q)

-- ---- fold and trim

-- what is left after a run, folded, starts with no blank
folded_start : (s : List ℕ) → run is_gap s ≡ 0 → run is_blank (folded 0 s) ≡ 0
unfolding folded
folded_start [] e = run_nil is_blank
folded_start (b ∷ s) e = go (is_gap b) refl
  where
    go : (t : Bool) → is_gap b ≡ t → run is_blank (folded 0 (b ∷ s)) ≡ 0
    go true q = absurd (omega (arith, run_yes is_gap b s q))
    go false q = rw (folded_byte b s q) (run_no is_blank b (folded 0 s) (gap_no b q))

-- a run before what starts with none: folded, it is joined
folded_before : (g s : List ℕ) → all is_gap g ≡ true → run is_gap s ≡ 0 → folded 0 (before g s) ≡ before (joined g) (folded 0 s)
unfolding folded
folded_before g [] a e = refl
folded_before g (c ∷ s) a e =
    folded_run (g ++ c ∷ s)
    ∙ rw (run_exact is_gap g (c ∷ s) a e, take-append_seam g (c ∷ s), drop-append_seam g (c ∷ s)) (go (is_gap c) refl)
  where
    go : (t : Bool) → is_gap c ≡ t → joined g ++ folded 0 (c ∷ s) ≡ before (joined g) (folded 0 (c ∷ s))
    go true q = absurd (omega (arith, run_yes is_gap c s q))
    go false q = rw (folded_byte c s q)

fold_end : (s : List ℕ) → trim_end is_blank (folded 0 s) ≡ folded 0 (trim_end is_gap s)
unfolding folded trim_end
fold_end =
    by_runs (λ s. trim_end is_blank (folded 0 s) ≡ folded 0 (trim_end is_gap s)) refl
    (λ b s e h.
    ap (trim_end is_blank) (folded_byte b s e) ∙ trim_stays is_blank b (folded 0 s) (gap_no b e)
    ∙ ap (λ (l : List ℕ). b ∷ l) h ∙ sym (folded_byte b (trim_end is_gap s) e) ∙ ap (folded 0) (sym (trim_stays is_gap b s e)))
    (λ s h.
    let g = take (run is_gap s) s in
    let r = drop (run is_gap s) s in
    let a : all is_gap g ≡ true = run_all is_gap s in
    ap (trim_end is_blank) (folded_run s) ∙ trim_before is_blank (joined g) (folded 0 r) (joined_blank g a)
    ∙ ap (before (joined g)) h ∙ sym (folded_before g (trim_end is_gap r) a (trim_run is_gap r (run_after is_gap s)))
    ∙ ap (folded 0) (sym (trim_before is_gap g r a) ∙ ap (trim_end is_gap) (take-append-drop (run is_gap s) s)))

pub canonical_core : (v : List ℕ) → canonical v ≡ folded 0 (trim is_gap v)
unfolding canonical trim
canonical_core v =
    let g = take (run is_gap v) v in
    let w = drop (run is_gap v) v in
    let e : run is_blank (joined g ++ folded 0 w) ≡ length (joined g)
    = run_exact is_blank (joined g) (folded 0 w) (joined_blank g (run_all is_gap v)) (folded_start w (run_after is_gap v)) in
    rw (folded_run v, e, drop-append_seam (joined g) (folded 0 w)) (fold_end w)

-- ---- a text that holds no break

any_take : (p : ℕ → Bool) (k : ℕ) (s : List ℕ) → any p s ≡ false → any p (take k s) ≡ false
unfolding any
any_take p zero s e = refl
any_take p (suc k) [] e = refl
any_take p (suc k) (b ∷ s) e = rw (any_first p b s e).0 (any_take p k s (any_first p b s e).1)

any_drop : (p : ℕ → Bool) (k : ℕ) (s : List ℕ) → any p s ≡ false → any p (drop k s) ≡ false
any_drop p zero s e = e
any_drop p (suc k) [] e = e
any_drop p (suc k) (b ∷ s) e = any_drop p k s (any_first p b s e).1

pub folded_plain : (s : List ℕ) → any is_break s ≡ false → folded 0 s ≡ s
unfolding folded joined
folded_plain =
    by_runs (λ s. any is_break s ≡ false → folded 0 s ≡ s) (λ n. refl)
    (λ b s e h n. folded_byte b s e ∙ ap (λ (l : List ℕ). b ∷ l) (h (any_first is_break b s n).1))
    (λ s h n.
    folded_run s
    ∙ rw (any_take is_break (run is_gap s) s n, h (any_drop is_break (run is_gap s) s n)) (take-append-drop (run is_gap s) s))

pub canonical_plain : (v : List ℕ) → any is_break (trim is_gap v) ≡ false → canonical v ≡ trim is_gap v
canonical_plain v n = canonical_core v ∙ folded_plain (trim is_gap v) n

-- ---- lengths

pub joined_le : (g : List ℕ) → length (joined g) ≤ length g
unfolding joined any
joined_le [] = omega arith
joined_le (b ∷ g) = go (any is_break (b ∷ g)) refl
  where
    go : (t : Bool) → any is_break (b ∷ g) ≡ t → length (joined (b ∷ g)) ≤ suc (length g)
    go true e = rw e (omega arith)
    go false e = rw e (omega arith)

pub folded_le : (s : List ℕ) → length (folded 0 s) ≤ length s
unfolding folded
folded_le =
    by_runs (λ s. length (folded 0 s) ≤ length s) (omega arith) (λ b s e h. rw (folded_byte b s e) (omega arith))
    (λ s h.
    let g = take (run is_gap s) s in
    let r = drop (run is_gap s) s in
    rw folded_run
    (omega (arith, joined_le g, length-append (joined g) (folded 0 r), length-append g r, ap length (take-append-drop (run is_gap s) s))))
