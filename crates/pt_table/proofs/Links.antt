-- Links: what writing a link changes in the rows, and in what each leads to.
use Rattle.std.proofs.Common.{◌≡◌, ◌∙◌, ℕ, Bool, true, false, cond, nat_eq, List, [], ◌∷◌, Option}
use Rattle.std.proofs.Common.{Some, None, is_some, refl, sym, ap, arith}
use Rattle.std.specs.Option.{option_map, option_and_then}
use Rattle.std.proofs.lemmas.Bool.{eqb-true}
use Rattle.std.proofs.lemmas.Bool.Decides.{nat_tests}
use Rattle.pt_table.specs.declared.link.Link.{Link}
use Rattle.pt_table.specs.declared.objects.ObjectRow.{ObjectRow}
use Rattle.pt_table.specs.ObjectRows.{object_at, link_of, has_object, with_link, out_of_chains}
use Rattle.pt_table.specs.Linked.{is_linked, next_number, number_before, linked_by}
use Rattle.pt_table.specs.Linked.{rows_without_links}

module _ {T : Type 0} where
  -- the row that is found has the number
  found-number : (rows : List (ObjectRow T)) (n : ℕ) (row : ObjectRow T)
      → object_at rows n ≡ Some row → row.number ≡ n
  found-number [] n row e = cc
  found-number (r ∷ rows) n row e = go (found-number rows n row) (nat_eq n r.number) refl e
    where
      go : (object_at rows n ≡ Some row → row.number ≡ n) → (b : Bool) → nat_eq n r.number ≡ b
          → cond b (Some r) (object_at rows n) ≡ Some row → row.number ≡ n
      go ih true t e =
          let same : r ≡ row = cc in
          ap (λ (x : ObjectRow T). x.number) (sym same) ∙ sym (eqb-true n r.number t)
      go ih false t e = ih e

  -- a row after a link is written to the row of a number
  abbrev relinked : ℕ → Link → ObjectRow T → ObjectRow T
  relinked n link r = cond (nat_eq n r.number) (record r { link = link }) r

  number-kept : (n : ℕ) (link : Link) (r : ObjectRow T) → (relinked n link r).number ≡ r.number
  number-kept n link r = go (nat_eq n r.number)
    where
      go : (b : Bool) → (cond b (record r { link = link }) r).number ≡ r.number
      go true = refl
      go false = refl

  row-relinked : (rows : List (ObjectRow T)) (n : ℕ) (link : Link) (m : ℕ)
      → object_at (with_link rows n link) m ≡ option_map (relinked n link) (object_at rows m)
  row-relinked [] n link m = refl
  row-relinked (r ∷ rows) n link m =
      ap (λ k. cond (nat_eq m k) (Some (relinked n link r)) (object_at (with_link rows n link) m))
      (number-kept n link r)
      ∙ go (row-relinked rows n link m) (nat_eq m r.number)
    where
      go : object_at (with_link rows n link) m ≡ option_map (relinked n link) (object_at rows m)
          → (b : Bool)
          → cond b (Some (relinked n link r)) (object_at (with_link rows n link) m)
          ≡ option_map (relinked n link) (cond b (Some r) (object_at rows m))
      go ih true = refl
      go ih false = ih

  -- the link is in the row of the number, and the other rows keep theirs
  pub link-written : (rows : List (ObjectRow T)) (n : ℕ) (link : Link) → has_object rows n ≡ true
      → (m : ℕ) → link_of (with_link rows n link) m
      ≡ cond (nat_eq n m) (Some link) (link_of rows m)
  link-written rows n link has m =
      ap (option_map (λ r. r.link)) (row-relinked rows n link m)
      ∙ go (object_at rows m) refl (nat_eq n m) refl
    where
      go : (o : Option (ObjectRow T)) → object_at rows m ≡ o → (b : Bool) → nat_eq n m ≡ b
          → option_map (λ r. r.link) (option_map (relinked n link) o)
          ≡ cond b (Some link) (option_map (λ r. r.link) o)
      go None found true t =
          let same : n ≡ m = grind (arith, nat_tests) in
          absurd cc
      go None found false t = refl
      go (Some r) found b t =
          ap (λ a. Some ((cond a (record r { link = link }) r).link))
          (ap (nat_eq n) (found-number rows m r found) ∙ t) ∙ at b
        where
          at : (b : Bool) → Some ((cond b (record r { link = link }) r).link)
              ≡ cond b (Some link) (Some r.link)
          at true = refl
          at false = refl

  pub next-written : (rows : List (ObjectRow T)) (n : ℕ) (link : Link) → has_object rows n ≡ true
      → (m : ℕ) → next_number (with_link rows n link) m
      ≡ cond (nat_eq n m) link.next (next_number rows m)
  next-written rows n link has m =
      ap (option_and_then (λ (l : Link). l.next)) (link-written rows n link has m)
      ∙ go (nat_eq n m)
    where
      go : (b : Bool) → option_and_then (λ (l : Link). l.next) (cond b (Some link) (link_of rows m))
          ≡ cond b link.next (next_number rows m)
      go true = refl
      go false = refl

  pub before-written : (rows : List (ObjectRow T)) (n : ℕ) (link : Link)
      → has_object rows n ≡ true → (m : ℕ) → number_before (with_link rows n link) m
      ≡ cond (nat_eq n m) link.before (number_before rows m)
  before-written rows n link has m =
      ap (option_and_then (λ (l : Link). l.before)) (link-written rows n link has m)
      ∙ go (nat_eq n m)
    where
      go : (b : Bool)
          → option_and_then (λ (l : Link). l.before) (cond b (Some link) (link_of rows m))
          ≡ cond b link.before (number_before rows m)
      go true = refl
      go false = refl

  pub linked-written : (rows : List (ObjectRow T)) (n : ℕ) (link : Link)
      → has_object rows n ≡ true → (m : ℕ) → is_linked (with_link rows n link) m
      ≡ cond (nat_eq n m) link.linked (is_linked rows m)
  linked-written rows n link has m =
      ap linked_by (link-written rows n link has m) ∙ go (nat_eq n m)
    where
      go : (b : Bool) → linked_by (cond b (Some link) (link_of rows m))
          ≡ cond b link.linked (is_linked rows m)
      go true = refl
      go false = refl

  -- and the rows are unchanged, except for links
  pub rows_without_links-written : (rows : List (ObjectRow T)) (n : ℕ) (link : Link)
      → rows_without_links (with_link rows n link) ≡ rows_without_links rows
  rows_without_links-written [] n link = refl
  rows_without_links-written (r ∷ rows) n link =
      ap (λ x. x ∷ rows_without_links (with_link rows n link)) (go (nat_eq n r.number))
      ∙ ap (λ xs. record r { link = out_of_chains } ∷ xs) (rows_without_links-written rows n link)
    where
      go : (b : Bool) → record (cond b (record r { link = link }) r) { link = out_of_chains }
          ≡ record r { link = out_of_chains }
      go true = refl
      go false = refl

  -- a number that is linked has a row
  pub linked-there : (rows : List (ObjectRow T)) (n : ℕ) → is_linked rows n ≡ true
      → has_object rows n ≡ true
  linked-there rows n e = go (object_at rows n) e
    where
      go : (o : Option (ObjectRow T)) → linked_by (option_map (λ r. r.link) o) ≡ true
          → is_some o ≡ true
      go None e = cc
      go (Some r) e = refl

  -- the link of a number shows what the number leads to
  pub next-found : (rows : List (ObjectRow T)) (n : ℕ) (link : Link) → link_of rows n ≡ Some link
      → link.next ≡ next_number rows n
  next-found rows n link e = sym (ap (option_and_then (λ (l : Link). l.next)) e)

  pub before-found : (rows : List (ObjectRow T)) (n : ℕ) (link : Link)
      → link_of rows n ≡ Some link → link.before ≡ number_before rows n
  before-found rows n link e = sym (ap (option_and_then (λ (l : Link). l.before)) e)

  pub linked-found : (rows : List (ObjectRow T)) (n : ℕ) (link : Link) → link_of rows n ≡ Some link
      → link.linked ≡ is_linked rows n
  linked-found rows n link e = sym (ap linked_by e)

  -- one link is written
  module _ (rows one : List (ObjectRow T)) (n : ℕ) (link : Link)
      (has : has_object rows n ≡ true) (to_one : one ≡ with_link rows n link) where
    pub next-once : (k : ℕ) → next_number one k ≡ cond (nat_eq n k) link.next (next_number rows k)
    next-once k = ap (λ rs. next_number rs k) to_one ∙ next-written rows n link has k

    pub before-once : (k : ℕ)
        → number_before one k ≡ cond (nat_eq n k) link.before (number_before rows k)
    before-once k = ap (λ rs. number_before rs k) to_one ∙ before-written rows n link has k

    pub linked-once : (k : ℕ) → is_linked one k ≡ cond (nat_eq n k) link.linked (is_linked rows k)
    linked-once k = ap (λ rs. is_linked rs k) to_one ∙ linked-written rows n link has k

    pub rows_without_links-once : rows_without_links one ≡ rows_without_links rows
    rows_without_links-once = ap rows_without_links to_one ∙ rows_without_links-written rows n link

-- writing at a number what was there changes nothing
pub written-same : {X : Type 0} (f : ℕ → X) (n : ℕ) (x : X) → x ≡ f n → (k : ℕ)
    → cond (nat_eq n k) x (f k) ≡ f k
written-same f n x e k = go (nat_eq n k) refl
  where
    go : (b : Bool) → nat_eq n k ≡ b → cond b x (f k) ≡ f k
    go true s = e ∙ ap f (eqb-true n k s)
    go false s = refl
