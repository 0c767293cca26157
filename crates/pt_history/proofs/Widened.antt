-- Records whose lists are unchanged, with at least as much memory.
use Rattle.std.proofs.Common.{ℕ, ◌≡◌, ◌+◌, ◌-◌, ◌*◌, ◌<◌, ◌≤◌, refl, ap, sym, subst, arith}
use Rattle.std.proofs.Common.{vec_len, vec_capacity}
use Rattle.std.specs.Prelude.{Vec}
use Rattle.pt_hints.specs.declared.hints.Hints.{Hints}
use Rattle.pt_history.specs.declared.records.Records.{Records}
use Rattle.pt_history.specs.Records.{HasPartsRoom, KeepsParts}

-- the same elements, with at least as much memory
pub record Widened {X A : Type 0} (old new : Vec X A) : Type 0 where
  pub items : new.items ≡ old.items
  pub len : vec_len new ≡ vec_len old
  pub capacity : vec_capacity old ≤ vec_capacity new

pub unchanged : {X A : Type 0} (v : Vec X A) → Widened v v
unchanged v = record { items = refl; len = refl; capacity = omega arith }

-- the same lists
pub record SameLists {A : Type 0} (old new : Records A) : Type 0 where
  pub texts : new.texts ≡ old.texts
  pub limits : new.limits ≡ old.limits
  pub moments : new.moments ≡ old.moments
  pub wholes : new.wholes ≡ old.wholes

pub other-hints : {A : Type 0} (old new : Records A) (h : Hints A)
    → new ≡ (record old { hints = h }) → SameLists old new
other-hints {A} old new h e = record {
  texts = ap (λ (r : Records A). r.texts) e;
  limits = ap (λ (r : Records A). r.limits) e;
  moments = ap (λ (r : Records A). r.moments) e;
  wholes = ap (λ (r : Records A). r.wholes) e;
}

pub widened-from : {X A : Type 0} (old mid new : Vec X A) → mid ≡ old → Widened mid new
    → Widened old new
widened-from {X} {A} old mid new e w = subst (λ (v : Vec X A). Widened v new) e w

pub keeps-parts : {A : Type 0} (old new : Records A) → Widened old.texts new.texts
    → Widened old.limits new.limits → Widened old.moments new.moments
    → Widened old.wholes new.wholes → KeepsParts old new
keeps-parts old new t l m w = record {
  same = rw (t.items, l.items, m.items, w.items);
  room = λ n h. record {
    texts = omega (arith, h.texts, t.len, t.capacity);
    limits = omega (arith, h.limits, l.len, l.capacity);
    moments = omega (arith, h.moments, m.len, m.capacity);
    wholes = omega (arith, h.wholes, w.len, w.capacity);
  };
  bounded = w.len;
}

pub keeps-after : {A : Type 0} (old mid new : Records A) → SameLists old mid
    → Widened mid.texts new.texts → Widened mid.limits new.limits
    → Widened mid.moments new.moments → Widened mid.wholes new.wholes → KeepsParts old new
keeps-after old mid new s t l m w =
    keeps-parts old new (widened-from old.texts mid.texts new.texts s.texts t)
    (widened-from old.limits mid.limits new.limits s.limits l)
    (widened-from old.moments mid.moments new.moments s.moments m)
    (widened-from old.wholes mid.wholes new.wholes s.wholes w)

pub room-for : {A : Type 0} (r : Records A) (n : ℕ)
    → vec_len r.texts + 64 * n ≤ vec_capacity r.texts
    → vec_len r.limits + n ≤ vec_capacity r.limits
    → vec_len r.moments + n ≤ vec_capacity r.moments
    → vec_len r.wholes + n ≤ vec_capacity r.wholes → HasPartsRoom r n
room-for r n t l m w = record { texts = t; limits = l; moments = m; wholes = w }

-- a growth for which there is room is not needed, and not refused
pub no-need : (capacity len a b n : ℕ) (P : Type 0) → a ≡ capacity → b ≡ len → a - b < n
    → len + n ≤ capacity → P
no-need capacity len a b n P e f l h = absurd (omega arith)

pub not-refused : {X A : Type 0} (old mid : Vec X A) (n : ℕ) (P : Type 0) → mid ≡ old
    → vec_len old + n ≤ vec_capacity old → vec_capacity mid < vec_len mid + n → P
not-refused {X} {A} old mid n P e h l =
    let full : vec_capacity old < vec_len old + n =
    subst (λ (v : Vec X A). vec_capacity v < vec_len v + n) e l in
    absurd (omega arith)

pub still-room : {X A : Type 0} (old mid : Vec X A) (n : ℕ) → mid ≡ old
    → vec_len old + n ≤ vec_capacity old → vec_len mid + n ≤ vec_capacity mid
still-room {X} {A} old mid n e h =
    subst (λ (v : Vec X A). vec_len v + n ≤ vec_capacity v) (sym e) h
