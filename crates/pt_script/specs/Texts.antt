-- Texts: how a text is written, and how writing it breaks off.
use Rattle.std.specs.Prelude.{◌≡◌, ℕ, ◌-◌, ◌<◌, ◌++◌, ◌⊎◌, List, length}

-- a front of these bytes, but not all of them, was taken after the old text
pub record IsCutShort (old bytes text : List ℕ) : Type 0 where
  pub front : List ℕ
  pub rest : List ℕ
  pub some : 0 < length rest
  pub parts : bytes ≡ front ++ rest
  pub taken : text ≡ old ++ front

-- why a writer is given up, from the number of its failures and of its writes that took no byte: a
-- write or a flush failed, or else a write took none of its bytes  [XSH write]
abbrev pub IsBroken : ℕ → ℕ → Type 0
IsBroken failures rejections =
    ((failures ≡ 1) × (rejections ≡ 0)) ⊎ ((failures ≡ 0) × (rejections ≡ 1))

-- what a writer took, what of it is flushed, how often it failed, and the number of writes
-- meanwhile that took none of their bytes
pub record WriterView : Type 0 where
  pub taken : List ℕ
  pub flushed : List ℕ
  pub failures : ℕ
  pub rejections : ℕ

-- the same for a writer of any type, from what contracts see of it: what it took, what is flushed,
-- how often it failed, and the number of its writes that took no byte; the last two arguments are
-- the writer before and after
abbrev pub writer_view : {W : Type 0} → (W → List ℕ) → (W → List ℕ) → (W → ℕ) → (W → ℕ) → W → W
    → WriterView
writer_view taken flushed failures rejections old new = record {
  taken = taken new;
  flushed = flushed new;
  failures = failures new;
  rejections = rejections new - rejections old;
}

-- the writer broke while these bytes were written after the old text, or while they were flushed: a
-- front of them was taken, in order, and none of them is flushed
pub record BreaksOff (old bytes : List ℕ) (w : WriterView) : Type 0 where
  pub front : List ℕ
  pub rest : List ℕ
  pub some : 0 < length bytes
  pub parts : bytes ≡ front ++ rest
  pub taken : w.taken ≡ old ++ front
  pub flushed : w.flushed ≡ old
  pub cause : IsBroken w.failures w.rejections

-- the writer has taken and flushed the old text, and was not given up
pub record IsUntouched (old : List ℕ) (w : WriterView) : Type 0 where
  pub taken : w.taken ≡ old
  pub flushed : w.flushed ≡ old
  pub failures : w.failures ≡ 0
  pub rejections : w.rejections ≡ 0
