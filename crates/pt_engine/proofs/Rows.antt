-- Rows of names after one was written.
use Rattle.std.proofs.Common.{◌≡◌, ℕ, suc, ◌<◌, Bool, true, false, cond, List, [], ◌∷◌, ◌++◌}
use Rattle.std.proofs.Common.{Option, Some, None, IsSome, refl, sym, ap, ◌∙◌, arith, rules}
use Rattle.std.specs.Option.{option_or}
use Rattle.std.specs.Str.{bytes_eq}
use Rattle.std.proofs.lemmas.Slice.Eq.{bytes_eq-Decides}
use Rattle.pt_engine.specs.declared.names.Row.{Row}
use Rattle.pt_grammar.specs.declared.client.Who.{Who}
use Rattle.pt_grammar.specs.declared.client.Who.TheVariants.{Named, Star, Unknown}
use Rattle.pt_engine.specs.Scripts.{number_named, number_of_who, same_who}
use Rattle.pt_engine.specs.Names.{NamesView, LineCounts, lines_in, client_of_row, client_counted}
use Rattle.pt_engine.specs.Names.{row_of_name}
use Rattle.pt_engine.specs.Names.{lines_counted, HaveSameCounts, AreCounted, NotesNumber}
use Rattle.pt_engine.specs.Names.{CountsOneLine}
use Rattle.pt_engine.proofs.Counted.{ap_cond, lookup_push}
use Rattle.pt_engine.proofs.Keys.{either_way, none_else}

-- the name's row is this one, and all other rows are unchanged
abbrev pub IsSet : List (List ℕ × Row) → List ℕ → Row → List (List ℕ × Row) → Type 0
IsSet old name row new =
    (other : List ℕ) → row_of_name new other
    ≡ cond (bytes_eq name other) (Some row) (row_of_name old other)

keep : {X : Type 0} (f : List ℕ → X) (name other : List ℕ) (b : Bool) → (b ≡ true → name ≡ other)
    → cond b (f name) (f other) ≡ f other
keep f name other true same = ap f (same refl)
keep f name other false same = refl

keep_or : {X : Type 0} (f : List ℕ → X) (s : X → X) (name other : List ℕ) (b : Bool)
    → (b ≡ true → name ≡ other) → cond b (s (f name)) (f other) ≡ cond b (s (f other)) (f other)
keep_or f s name other true same = ap (λ n. s (f n)) (same refl)
keep_or f s name other false same = refl

-- what is counted after a name's row is set
module _ (old : LineCounts) (rows : List (List ℕ × Row)) (name : List ℕ) (row : Row)
    (set : IsSet old.rows name row rows) where
  set_by : {X : Type 0} (f : Option Row → X) (other : List ℕ)
      → f (row_of_name rows other)
      ≡ cond (bytes_eq name other) (f (Some row)) (f (row_of_name old.rows other))
  set_by f other =
      ap f (set other) ∙ ap_cond f (bytes_eq name other) (Some row) (row_of_name old.rows other)

  set_same : {X : Type 0} (f : Option Row → X) → f (Some row) ≡ f (row_of_name old.rows name)
      → (other : List ℕ) → f (row_of_name rows other) ≡ f (row_of_name old.rows other)
  set_same f same other =
      set_by f other
      ∙ ap (λ x. cond (bytes_eq name other) x (f (row_of_name old.rows other))) same
      ∙ keep (λ n. f (row_of_name old.rows n)) name other (bytes_eq name other)
      (bytes_eq-Decides name other).0

  -- one more line of the name
  pub row_raised : row.lines ≡ suc (lines_in (row_of_name old.rows name))
      → row.client ≡ client_of_row (row_of_name old.rows name)
      → CountsOneLine old (Named name) (record old { rows = rows })
  row_raised more same = record { lines = by; clients = set_same client_of_row same }
    where
      by : (who : Who)
          → lines_counted (record old { rows = rows }) who
          ≡ cond (same_who (Named name) who) (suc (lines_counted old who)) (lines_counted old who)
      by (Named other) =
          set_by lines_in other
          ∙ ap (λ n. cond (bytes_eq name other) n (lines_in (row_of_name old.rows other))) more
          ∙ keep_or (λ n. lines_in (row_of_name old.rows n)) suc name other (bytes_eq name other)
          (bytes_eq-Decides name other).0
      by Star = refl
      by Unknown = refl

  -- a new row with no line for a name that had none
  pub begun_alike : row_of_name old.rows name ≡ None → row.lines ≡ 0 → row.client ≡ None
      → HaveSameCounts old (record old { rows = rows })
  begun_alike none no_line no_client = record {
    lines = by;
    clients = set_same client_of_row (no_client ∙ sym (ap client_of_row none));
  }
    where
      by : (who : Who) → lines_counted (record old { rows = rows }) who ≡ lines_counted old who
      by (Named other) = set_same lines_in (no_line ∙ sym (ap lines_in none)) other
      by Star = refl
      by Unknown = refl

  -- the number of the name's client
  pub given : (c : ℕ) → row.lines ≡ lines_in (row_of_name old.rows name) → row.client ≡ Some c
      → NotesNumber old name c (record old { rows = rows })
  given c same has = record {
    lines = by;
    clients = λ other.
        set_by client_of_row other
        ∙ ap (λ n. cond (bytes_eq name other) n (client_of_row (row_of_name old.rows other))) has;
  }
    where
      by : (who : Who) → lines_counted (record old { rows = rows }) who ≡ lines_counted old who
      by (Named other) = set_same lines_in same other
      by Star = refl
      by Unknown = refl

-- a name with at least one line has a row
pub has_row : (r : Option Row) → 0 < lines_in r → IsSome r
has_row None some = absurd (omega arith)
has_row (Some row) some = search rules

-- what is counted after a client has joined under a name for the first time
pub joined_counted : (old new : LineCounts) (total : ℕ) (known : NamesView) (name : List ℕ) (c : ℕ)
    → AreCounted old total known → NotesNumber old name c new → number_named known.clients name
    ≡ None
    → AreCounted new total (record known { clients = known.clients ++ (name, c) ∷ [] })
joined_counted old new total known name c counted given first = record {
  lines = λ who. given.lines who ∙ counted.lines who;
  all = counted.all;
  joined = λ other.
      given.clients other
      ∙ ap (λ r. cond (bytes_eq name other) (Some c) r) (counted.joined other)
      ∙ by other (bytes_eq name other) (bytes_eq-Decides name other).0
      ∙ ap (λ t. option_or (number_named known.clients other) (cond t (Some c) None))
      (either_way bytes_eq bytes_eq-Decides name other)
      ∙ sym (lookup_push (bytes_eq other) known.clients name c);
}
  where
    by : (other : List ℕ) (b : Bool) → (b ≡ true → name ≡ other)
        → cond b (Some c) (number_named known.clients other)
        ≡ option_or (number_named known.clients other) (cond b (Some c) None)
    by other true same =
        ap (λ r. option_or r (Some c))
        (sym (ap (number_named known.clients) (sym (same refl)) ∙ first))
    by other false same = sym (none_else (number_named known.clients other))

-- the number of a client, read off what is counted
pub client_known : (k : LineCounts) (total : ℕ) (known : NamesView) → AreCounted k total known
    → (who : Who) → client_counted k who ≡ number_of_who known.clients who
client_known k total known are (Named name) = are.joined name
client_known k total known are Star = refl
client_known k total known are Unknown = refl
