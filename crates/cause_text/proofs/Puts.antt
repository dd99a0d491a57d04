-- A text that is put, whether there is one or not. `put_by_space` and `put_by_part` serve no code: the wrong version put_lines_part_without_room
-- goes by way of a space and of a part, and with these laws it is refused for what it leaves out, and not for its way.
use mathlib.Core.Path.{◌≡◌, sym, ◌∙◌}
use mathlib.Core.List.{List, []}
use Prim.Native.Nat.{ℕ}
use native.Mathlib.Omega.{arith}
use lib.ListN.{length, take}
use lib.Seq.{take_all}
use Rattle.std.specs.Prelude.{Option, Some, None, MatchOption, unwrap_or}
use Rattle.emit.specs.Put.{Wrote, Placed}
use Rattle.emit.specs.Texts.{pushed}
use Rattle.emit.proofs.Laws.{next_nil, put_nil}
use Rattle.emit.proofs.Placing.{placed, stands, put_from}
use Rattle.emit.proofs.Pushes.{pushed_whole}
use Rattle.cause_text.specs.Text.{printed}
use Rattle.cause_text.proofs.Promises.{print_room}

pub maybe_put : {d : List ℕ} {r : ℕ} {d' : List ℕ} (o : Option (List ℕ))
    → MatchOption o ((r ≡ 0) × (d' ≡ d)) (λ t. Wrote d 0 t r d')
    → Wrote d 0 (unwrap_or o []) r d'
maybe_put {d} None h = record { next = h.0 ∙ sym (next_nil d 0); holds = h.1 ∙ sym (put_nil d 0) }
maybe_put (Some t) h = h

module _ (x : List ℕ) {t u : Option (List ℕ)} (a : t ≡ Some []) (b : u ≡ pushed 1792 t (printed x)) where
  text_whole : u ≡ Some (printed x)
  text_whole = b ∙ rw a (pushed_whole 1792 (printed x) (print_room x).1)

  pub text_put : {d : List ℕ} {r : ℕ} {d' : List ℕ} → Wrote d 0 (unwrap_or u []) r d' → Wrote d 0 (printed x) r d'
  text_put w = rw text_whole at w

  -- a space of its own has room for whatever is printed
  in_space : {s : List ℕ} {n : ℕ} {s' : List ℕ} → Wrote s 0 (unwrap_or u []) n s' → length s ≡ 1792 → Placed s 0 (printed x) n s'
  in_space w l = placed (text_put w) (omega (arith, l, (print_room x).1))

  pub put_by_space : {s : List ℕ} {n : ℕ} {s' f d : List ℕ} {r : ℕ} {d' : List ℕ} → Wrote s 0 (unwrap_or u []) n s' → length s ≡ 1792
      → f ≡ take n s' → Wrote d 0 f r d' → Wrote d 0 (printed x) r d'
  put_by_space w l e p = put_from (printed x) (in_space w l) e p

  -- in this order `search` finds the premises
  pub put_by_part : {s : List ℕ} {n m : ℕ} {s' f g d : List ℕ} {r : ℕ} {d' : List ℕ} → Wrote d 0 g r d' → g ≡ take m f → f ≡ take n s'
      → Wrote s 0 (unwrap_or u []) n s' → n ≡ m → length s ≡ 1792 → Wrote d 0 (printed x) r d'
  put_by_part {s} {n} {m} {s'} {f} {g} p q e w z l =
      let k = in_space w l in
      let y : f ≡ printed x = e ∙ stands k in
      let t : take m (printed x) ≡ printed x = take_all m (printed x) (omega (arith, z, k.next)) in
      let j : g ≡ printed x = q ∙ rw y t in
      rw j at p
