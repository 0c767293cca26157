-- Linked: chains of rows, linked in both directions, each followed from its head.
use Rattle.std.specs.Prelude.{◌≡◌, ◌<◌, ◌≤◌, ◌⊎◌, ◌↔◌, ℕ, Bool, true, false, List, [], ◌∷◌, Option}
use Rattle.std.specs.Prelude.{Some, None, filter, length, map, nat_eq, not}
use Rattle.std.specs.List.{AllByRecursion as Each}
use Rattle.std.specs.Option.{option_and_then}
use Rattle.pt_table.specs.declared.link.Link.{Link}
use Rattle.pt_table.specs.declared.objects.ObjectRow.{ObjectRow}
use Rattle.pt_table.specs.ObjectRows.{link_of, out_of_chains}

-- the number is in the list
abbrev pub IsOneOf : List ℕ → ℕ → Type 0
IsOneOf [] n = ⊥
IsOneOf (m ∷ ms) n = (n ≡ m) ⊎ IsOneOf ms n

-- the two lists have no number in common
abbrev pub AreDisjoint : List ℕ → List ℕ → Type 0
AreDisjoint ns ms = (n : ℕ) → IsOneOf ns n → IsOneOf ms n → ⊥

-- the numbers without this one
abbrev pub but_number : List ℕ → ℕ → List ℕ
but_number ns n = filter (λ m. not (nat_eq n m)) ns

-- from the head, each number leads to the next one and back to the one before it, all are linked,
-- and no number comes twice
abbrev pub IsLinkedList : (ℕ → Option ℕ) → (ℕ → Option ℕ) → (ℕ → Bool) → Option ℕ → Option ℕ
    → List ℕ
    → Type 0
IsLinkedList next before linked previous head [] = head ≡ None
IsLinkedList next before linked previous head (n ∷ ns) =
    (head ≡ Some n) × (linked n ≡ true) × (before n ≡ previous) × (IsOneOf ns n → ⊥)
    × IsLinkedList next before linked (Some n) (next n) ns

-- whether the number is present and equals this one
abbrev pub is_this_number : Option ℕ → ℕ → Bool
is_this_number None n = false
is_this_number (Some m) n = nat_eq m n

-- the last number of a list, if any
abbrev pub last_number : List ℕ → Option ℕ
last_number [] = None
last_number (n ∷ []) = Some n
last_number (n ∷ m ∷ ms) = last_number (m ∷ ms)

-- each number is less than those after it
abbrev pub IsRising : List ℕ → Type 0
IsRising [] = Unit {0}
IsRising (n ∷ ns) = Each (λ m. n < m) ns × IsRising ns

-- whether a row with this link is in a chain
abbrev pub linked_by : Option Link → Bool
linked_by None = false
linked_by (Some link) = link.linked

module _ {T : Type 0} where
  -- whether the row of an object is in a chain
  abbrev pub is_linked : List (ObjectRow T) → ℕ → Bool
  is_linked rows number = linked_by (link_of rows number)

  -- the number of the object after this one in its chain
  abbrev pub next_number : List (ObjectRow T) → ℕ → Option ℕ
  next_number rows number = option_and_then (λ link. link.next) (link_of rows number)

  -- the number of the object before this one in its chain
  abbrev pub number_before : List (ObjectRow T) → ℕ → Option ℕ
  number_before rows number = option_and_then (λ link. link.before) (link_of rows number)

  -- the number, if there is one, is that of a linked row
  abbrev pub IsLinkedIf : List (ObjectRow T) → Option ℕ → Type 0
  IsLinkedIf rows number = (n : ℕ) → number ≡ Some n → is_linked rows n ≡ true

  -- the chain of this head has exactly these numbers, in this order
  abbrev pub IsRowChain : List (ObjectRow T) → Option ℕ → List ℕ → Type 0
  IsRowChain rows head numbers =
      IsLinkedList (next_number rows) (number_before rows) (is_linked rows) None head numbers

  -- the links from this head form a chain, which may be empty
  abbrev pub HasChain : List (ObjectRow T) → Option ℕ → Type 0
  HasChain rows head = (numbers : List ℕ) × IsRowChain rows head numbers

  -- the chain of this head has at most `max_len` rows
  abbrev pub HasMaxLength : List (ObjectRow T) → Option ℕ → ℕ → Type 0
  HasMaxLength rows head max_len =
      (numbers : List ℕ) → IsRowChain rows head numbers → length numbers ≤ max_len

  -- the links from this head form a chain, and the object's row is in it
  abbrev pub IsInChain : List (ObjectRow T) → ℕ → ℕ → Type 0
  IsInChain rows head number =
      (numbers : List ℕ) × IsRowChain rows (Some head) numbers × IsOneOf numbers number

  -- chains that share no row with the chain of this head are unchanged
  abbrev pub KeepsOthers : List (ObjectRow T) → List (ObjectRow T) → Option ℕ → Type 0
  KeepsOthers old new head =
      (numbers : List ℕ) → IsRowChain old head numbers → (other : Option ℕ) (others : List ℕ)
      → IsRowChain old other others → AreDisjoint numbers others → IsRowChain new other others

  -- the rows, with every link replaced by that of a row in no chain
  abbrev pub rows_without_links : List (ObjectRow T) → List (ObjectRow T)
  rows_without_links rows = map (λ (row : ObjectRow T). record row { link = out_of_chains }) rows

  -- the chain of the first head, which begins at the second one afterwards, has the same numbers in
  -- rising order
  abbrev pub IsSortedTo : List (ObjectRow T) → List (ObjectRow T) → Option ℕ → Option ℕ → Type 0
  IsSortedTo old new head after =
      (numbers : List ℕ) → IsRowChain old head numbers
      → (sorted : List ℕ) × IsRowChain new after sorted × IsRising sorted
      × ((n : ℕ) → IsOneOf sorted n ↔ IsOneOf numbers n)
