-- Where the texts of names lie, and what appending them does.
use Rattle.std.proofs.Common.{ℕ, ◌≡◌, ◌+◌, ◌<◌, ◌≤◌, List, [], ◌++◌, length, vec_len, vec_capacity}
use Rattle.std.proofs.Common.{take, sym, ap, subst, ◌∙◌, arith, length-append, append_assoc}
use Rattle.std.proofs.Common.{Fits, w8, w64}
use Rattle.std.specs.Prelude.{Vec}
use Rattle.std.proofs.lemmas.List.{append-nil, take_all, drop_at}
use Rattle.pt_types.specs.Names.{IsName}
use Rattle.pt_history.specs.Compact.{IsText}
use Rattle.pt_history.specs.Records.{HasText, HasTexts, LiesAt}
use Rattle.pt_history.proofs.Stable.{text-stable}

-- the length of a name fits into a byte
pub short-name : (name : List ℕ) → IsName name → Fits w8 (length name)
short-name name n = omega (arith, n.fits)

pub wide : (n : ℕ) → n < 4294967296 → Fits w64 n
wide n h = omega arith

pub as-wide : (n m : ℕ) → n ≡ m → m < 18446744073709551616 → Fits w64 n
as-wide n m e h = omega arith

pub near-start : (n : ℕ) → n < 4294967296 → n ≤ 4294967327
near-start n h = omega arith

-- what grew by one name at most grew by two at most
pub for-two : (new old : ℕ) → new ≤ old + 32 → new ≤ old + 64
for-two new old h = omega arith

-- the index after a name that begins at an index of 32 bits
pub next-wide : (n : ℕ) (name : List ℕ) → n < 4294967296 → IsName name
    → Fits w64 (n + length name)
next-wide n name h i = omega (arith, i.fits)

pub next-near : (n : ℕ) (name : List ℕ) → n < 4294967296 → IsName name
    → n + length name ≤ 4294967327
next-near n name h i = omega (arith, i.fits)

-- there is room for a name
pub room-one : (len capacity more : ℕ) (bytes name : List ℕ) → bytes ≡ name → IsName bytes
    → 32 ≤ more → len + more ≤ capacity → len + length name ≤ capacity
room-one len capacity more bytes name e n m h = omega (arith, n.fits, ap length e)

-- and for another name after it
pub room-two : (old len capacity cap : ℕ) (bytes one next other : List ℕ)
    → bytes ≡ one → IsName bytes → next ≡ other → IsName next
    → len ≡ old + length one → old + 64 ≤ cap → cap ≤ capacity
    → len + length other ≤ capacity
room-two old len capacity cap bytes one next other e n f m l h k =
    omega (arith, n.fits, m.fits, ap length e, ap length f)

lies-text : (texts name : List ℕ) (i : ℕ) → IsName name → LiesAt texts name i
    → IsText texts i (length name)
lies-text texts name i n l = record {
  within = l.within;
  name = subst (λ (t : List ℕ). IsName t) (sym l.same) n;
}

-- a name lies where it was found
pub found-there : (seen texts bytes name : List ℕ) (i : ℕ) → seen ≡ texts → bytes ≡ name
    → LiesAt seen name i → LiesAt texts bytes i
found-there seen texts bytes name i e f l =
    subst (λ (t : List ℕ). LiesAt t bytes i) e
    (subst (λ (t : List ℕ). LiesAt seen t i) (sym f) l)

lies-still : (texts more name : List ℕ) (i : ℕ) → LiesAt texts name i
    → LiesAt (texts ++ more) name i
lies-still texts more name i l = record {
  within = omega (arith, l.within, length-append texts more);
  same = text-stable texts more i (length name) l.within ∙ l.same;
}

lies-end : (texts name : List ℕ) (i : ℕ) → i ≡ length texts → LiesAt (texts ++ name) name i
lies-end texts name i e = record {
  within = omega (arith, length-append texts name);
  same = ap (λ (t : List ℕ). take (length name) t) (drop_at texts name i (sym e))
      ∙ take_all (length name) name (omega arith);
}

-- the texts are unchanged, and contain the name
pub text-there : {A : Type 0} (texts : Vec ℕ A) (bytes name : List ℕ) (i : ℕ)
    → bytes ≡ name → IsName bytes → LiesAt texts.items bytes i
    → HasText texts texts name (length bytes) i
text-there texts bytes name i e n l = record {
  more = [];
  items = sym (append-nil _);
  text = lies-text texts.items bytes i n l;
  same = l.same ∙ e;
  len = omega arith;
  capacity = omega arith;
}

-- the texts are unchanged, and contain both names
pub texts-there : {A : Type 0} (texts : Vec ℕ A) (bytes one next other : List ℕ) (i : ℕ)
    → bytes ≡ one → IsName bytes → next ≡ other → IsName next
    → LiesAt texts.items bytes i → LiesAt texts.items next (i + length bytes)
    → HasTexts texts texts one other (length bytes) (length next) i
texts-there texts bytes one next other i e n f m l k = record {
  more = [];
  items = sym (append-nil _);
  texts = record {
    one = lies-text texts.items bytes i n l;
    other = lies-text texts.items next _ m k;
  };
  same = l.same ∙ e;
  next = k.same ∙ f;
  len = omega arith;
  capacity = omega arith;
}

-- the name is appended
pub text-appended : {A : Type 0} (old new : Vec ℕ A) (bytes name : List ℕ) (i : ℕ)
    → bytes ≡ name → IsName bytes → i ≡ length old.items
    → new.items ≡ old.items ++ name → vec_len new ≡ vec_len old + length name
    → vec_capacity old ≤ vec_capacity new
    → HasText old new name (length bytes) i
text-appended old new bytes name i e n at items len capacity =
    let more : new.items ≡ old.items ++ bytes = items ∙ ap (λ (t : List ℕ). old.items ++ t) (sym e)
    in
    let lies : LiesAt new.items bytes i =
    subst (λ (t : List ℕ). LiesAt t bytes i) (sym more) (lies-end old.items bytes i at) in
    record {
      more = name;
      items = items;
      text = lies-text new.items bytes i n lies;
      same = lies.same ∙ e;
      len = omega (arith, n.fits, ap length e);
      capacity = capacity;
    }

-- both names are appended
pub texts-appended : {A : Type 0} (old mid new : Vec ℕ A) (bytes one next other : List ℕ) (i : ℕ)
    → bytes ≡ one → IsName bytes → next ≡ other → IsName next → i ≡ length old.items
    → mid.items ≡ old.items ++ one → vec_len mid ≡ vec_len old + length one
    → vec_capacity old ≤ vec_capacity mid
    → new.items ≡ mid.items ++ other → vec_len new ≡ vec_len mid + length other
    → vec_capacity mid ≤ vec_capacity new
    → HasTexts old new one other (length bytes) (length next) i
texts-appended old mid new bytes one next other i e n f m at items len cap items2 len2 cap2 =
    let first : mid.items ≡ old.items ++ bytes =
    items ∙ ap (λ (t : List ℕ). old.items ++ t) (sym e) in
    let second : new.items ≡ mid.items ++ next =
    items2 ∙ ap (λ (t : List ℕ). mid.items ++ t) (sym f) in
    let lies : LiesAt mid.items bytes i =
    subst (λ (t : List ℕ). LiesAt t bytes i) (sym first) (lies-end old.items bytes i at) in
    let still : LiesAt new.items bytes i =
    subst (λ (t : List ℕ). LiesAt t bytes i) (sym second)
    (lies-still mid.items next bytes i lies) in
    let after : LiesAt new.items next (i + length bytes) =
    subst (λ (t : List ℕ). LiesAt t next (i + length bytes)) (sym second)
    (lies-end mid.items next (i + length bytes)
    (omega (arith, at, ap length first, length-append old.items bytes))) in
    record {
      more = one ++ other;
      items = items2 ∙ ap (λ (t : List ℕ). t ++ other) items ∙ append_assoc old.items one other;
      texts = record {
        one = lies-text new.items bytes i n still;
        other = lies-text new.items next _ m after;
      };
      same = still.same ∙ e;
      next = after.same ∙ f;
      len = omega (arith, n.fits, m.fits, ap length e, ap length f);
      capacity = omega arith;
    }
