-- Records: the parts that stored entries refer to, and how they grow.
use Rattle.std.specs.Prelude.{ℕ, suc, ◌+◌, ◌*◌, ◌≤◌, ◌≡◌, List, [], ◌++◌, length, Option, Some}
use Rattle.std.specs.Prelude.{None}
use Rattle.std.specs.Prelude.{vec_len, vec_capacity}
use Rattle.std.specs.Prelude.{Vec}
use Rattle.pt_model.specs.declared.entry.Entry.{Entry}
use Rattle.pt_history.specs.declared.compact.Compact.{Compact}
use Rattle.pt_history.specs.declared.records.Records.{Records}
use Rattle.pt_history.specs.Compact.{Parts, IsText, AreTexts, text_at, read_compact, IsStored}

-- parts without anything
abbrev pub no_parts : Parts
no_parts = record { texts = []; limits = []; moments = []; wholes = [] }

-- the parts that are stored
abbrev pub parts_of : {A : Type 0} → Records A → Parts
parts_of r =
    record {
      texts = r.texts.items;
      limits = r.limits.items;
      moments = r.moments.items;
      wholes = r.wholes.items;
    }

-- parts with more appended to them
abbrev pub join_parts : Parts → Parts → Parts
join_parts p q =
    record {
      texts = p.texts ++ q.texts;
      limits = p.limits ++ q.limits;
      moments = p.moments ++ q.moments;
      wholes = p.wholes ++ q.wholes;
    }

-- the parts only grew, at their ends
pub record HasGrown (old new : Parts) : Type 0 where
  pub more : Parts
  pub joined : new ≡ join_parts old more

-- there is room for what n more entries refer to, whatever they are: two names have 64 bytes at
-- most
pub record HasPartsRoom {A : Type 0} (r : Records A) (n : ℕ) : Type 0 where
  pub texts : vec_len r.texts + 64 * n ≤ vec_capacity r.texts
  pub limits : vec_len r.limits + n ≤ vec_capacity r.limits
  pub moments : vec_len r.moments + n ≤ vec_capacity r.moments
  pub wholes : vec_len r.wholes + n ≤ vec_capacity r.wholes

-- the parts are the same, and there is no less room
pub record KeepsParts {A : Type 0} (old new : Records A) : Type 0 where
  pub same : parts_of new ≡ parts_of old
  pub room : (n : ℕ) → HasPartsRoom old n → HasPartsRoom new n
  pub bounded : vec_len new.wholes ≡ vec_len old.wholes

-- the stored entry is read back as this one, everything that it refers to is stored, and the parts
-- only grew, by one entry's room at most
pub record Shows {A : Type 0} (b : ℕ) (e : Entry) (old new : Records A) (c : Compact)
    : Type 0 where
  pub same : read_compact b (parts_of new) c ≡ e
  pub stored : IsStored (parts_of new) c
  pub grown : HasGrown (parts_of old) (parts_of new)
  pub room : (n : ℕ) → HasPartsRoom old (suc n) → HasPartsRoom new n
  pub bounded : vec_len new.wholes ≤ suc (vec_len old.wholes)

-- this name lies at an index
pub record LiesAt (texts name : List ℕ) (from : ℕ) : Type 0 where
  pub within : from + length name ≤ length texts
  pub same : text_at texts from (length name) ≡ name

-- these two names, of these lengths, lie at an index, one after the other
pub record LieAt (texts one other : List ℕ) (first second from : ℕ) : Type 0 where
  pub both : AreTexts texts from first second
  pub same : text_at texts from first ≡ one
  pub next : text_at texts (from + first) second ≡ other

-- the texts only grew, and the name lies at this index and has this length
pub record HasText {A : Type 0} (old new : Vec ℕ A) (name : List ℕ)
    (count from : ℕ) : Type 0 where
  pub more : List ℕ
  pub items : new.items ≡ old.items ++ more
  pub text : IsText new.items from count
  pub same : text_at new.items from count ≡ name
  pub len : vec_len new ≤ vec_len old + 32
  pub capacity : vec_capacity old ≤ vec_capacity new

-- the texts only grew, and the two names lie at this index, one after the other, and have these
-- lengths
pub record HasTexts {A : Type 0} (old new : Vec ℕ A) (one other : List ℕ)
    (first second from : ℕ) : Type 0 where
  pub more : List ℕ
  pub items : new.items ≡ old.items ++ more
  pub texts : AreTexts new.items from first second
  pub same : text_at new.items from first ≡ one
  pub next : text_at new.items (from + first) second ≡ other
  pub len : vec_len new ≤ vec_len old + 64
  pub capacity : vec_capacity old ≤ vec_capacity new

-- the stored entry, if there is one, is read back as this one; else nothing changed
abbrev pub ShowsIfSome : {A : Type 0} → ℕ → Entry → Records A → Records A → Option Compact
    → Type 0
ShowsIfSome b e old new None = new ≡ old
ShowsIfSome b e old new (Some c) = Shows b e old new c
