-- The numbers that the C boundary hands out, and what it leaves in lent places, are those of a definition's answer.
use Rattle.std.specs.Prelude.{◌≡◌, cond, List, ℕ, ◌+◌, ◌≤◌, length}
use Rattle.octets.specs.Classes.{bit}
use Rattle.sip.specs.Readings.{calling_at}
use Rattle.sip.specs.Screen.{Screened}
use Rattle.records.specs.Running.{State}

pub record Screens (s : Screened) (reason reply detail missing len : ℕ) (buffer calls : List ℕ) : Type 0 where
  pub same_reason : reason ≡ s.answer.reason
  pub same_reply : reply ≡ s.answer.reply
  pub same_detail : detail ≡ s.answer.detail
  pub same_missing : missing ≡ s.answer.missing
  pub same_length : len ≡ s.answer.length
  pub same_buffer : buffer ≡ s.buffer
  pub same_calls : calls ≡ s.table

-- the part lies within the trunk number or the message, as the flag says
pub record Calls (m trunk : List ℕ) (len start flag : ℕ) : Type 0 where
  pub same_len : len ≡ (calling_at m trunk).len
  pub same_start : start ≡ (calling_at m trunk).start
  pub same_flag : flag ≡ bit (calling_at m trunk).from_trunk
  pub within : start + len ≤ length (cond (calling_at m trunk).from_trunk trunk m)

-- what is carried from record to record, in the four places that the caller keeps
abbrev pub replay_of : List ℕ → ℕ → ℕ → List ℕ → State
replay_of counts read end calls = record { counts = counts; read = read; end = end; calls = calls }

-- the numbers of it
pub record Counted (counts : List ℕ) (read end : ℕ) (st : State) : Type 0 where
  pub same_counts : counts ≡ st.counts
  pub same_read : read ≡ st.read
  pub same_end : end ≡ st.end
