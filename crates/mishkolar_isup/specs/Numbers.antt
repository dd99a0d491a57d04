-- The numbers that the C boundary of the box hands out, and what it leaves in the lent arrays, are those of a definition's answer.
use Rattle.std.specs.Prelude.{◌≡◌, List, ◌++◌, ℕ, take, drop}
use Rattle.octets.specs.Classes.{bit}
use Rattle.isup.specs.Answers.{Parameter}
use Rattle.isup.specs.Answers.{Caller}

-- the first bytes of an array are written, and those past them stay; none is written where there is nothing
abbrev pub written : ℕ → List ℕ → List ℕ → List ℕ
written len bytes before = take len bytes ++ drop len before

pub record Gives (p : Parameter) (reason reply detail missing len : ℕ) (before after : List ℕ) : Type 0 where
  pub same_reason : reason ≡ p.refusal.reason
  pub same_reply : reply ≡ p.refusal.reply
  pub same_detail : detail ≡ p.refusal.detail
  pub same_missing : missing ≡ p.refusal.missing
  pub same_length : len ≡ p.len
  pub same_array : after ≡ written p.len p.bytes before

pub record Calls (c : Caller) (id refusal len : ℕ) (before after : List ℕ) : Type 0 where
  pub same_id : id ≡ bit c.id
  pub same_refusal : refusal ≡ c.refusal
  pub same_length : len ≡ c.len
  pub same_array : after ≡ written c.len c.number before
