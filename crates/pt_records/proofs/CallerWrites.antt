-- Rows of clients after one is written, added or removed.
use Rattle.std.proofs.Common.{◌≡◌, ℕ, Bool, true, false, cond, ◌==◌, ◌||◌, nat_eq, List, [], ◌∷◌}
use Rattle.std.proofs.Common.{Option, Some, None, is_some, option_map, refl, sym, ap, subst, ◌∙◌}
use Rattle.std.proofs.Common.{arith, inl, inr}
use Rattle.std.specs.List.{list_any}
use Rattle.std.proofs.lemmas.Bool.Decides.{nat_tests}
use Rattle.std.proofs.lemmas.Bool.{cases_eq, eq-eqb, ne_eqb}
use Rattle.pt_table.specs.declared.clients.ClientRow.{ClientRow}
use Rattle.pt_table.specs.ClientRows.{client_at, client_value, has_client, with_client, and_client}
use Rattle.pt_table.specs.ClientRows.{without_client}
use Rattle.pt_records.specs.declared.clients.Caller.{Caller}
use Rattle.pt_records.specs.Callers.{HasDistinctNumbers}
use Rattle.pt_records.specs.Writes.{AddsCaller, ChangesCaller, RemovesCaller, WritesCaller}
use Rattle.pt_records.proofs.RowLemmas.{Apart, Apart-map, Apart-added, Apart-without, length-map}
use Rattle.pt_records.proofs.RowLemmas.{length-added, length-without, one_changed, one-kept}
use Rattle.pt_records.proofs.RowLemmas.{value-changed, value-added, value-without, value-there}

abbrev pub number_in : ClientRow Caller → ℕ
number_in row = row.number

abbrev pub value_in : ClientRow Caller → Caller
value_in row = row.value

-- a number is in no row exactly if no row is found by it
none-any : (rows : List (ClientRow Caller)) (n : ℕ)
    → list_any (λ other. other.number == n) rows ≡ false → client_at rows n ≡ None
none-any [] n e = refl
none-any (r ∷ rows) n e = go (none-any rows n) (r.number == n) refl e
  where
    go : (list_any (λ other. other.number == n) rows ≡ false → client_at rows n ≡ None) → (b : Bool)
        → (r.number == n) ≡ b → (b || list_any (λ other. other.number == n) rows) ≡ false
        → cond (nat_eq n r.number) (Some r) (client_at rows n) ≡ None
    go ih true t e = cc
    go ih false t e =
        let apart : nat_eq n r.number ≡ false = grind (arith, nat_tests) in
        ap (λ b. cond b (Some r) (client_at rows n)) apart ∙ ih e

any-none : (rows : List (ClientRow Caller)) (n : ℕ) → client_at rows n ≡ None
    → list_any (λ other. other.number == n) rows ≡ false
any-none [] n e = refl
any-none (r ∷ rows) n e = go (any-none rows n) (nat_eq n r.number) refl e
  where
    go : (client_at rows n ≡ None → list_any (λ other. other.number == n) rows ≡ false) → (b : Bool)
        → nat_eq n r.number ≡ b → cond b (Some r) (client_at rows n) ≡ None
        → ((r.number == n) || list_any (λ other. other.number == n) rows) ≡ false
    go ih true t e = cc
    go ih false t e =
        let apart : (r.number == n) ≡ false = grind (arith, nat_tests) in
        ap (λ b. b || list_any (λ other. other.number == n) rows) apart ∙ ih e

-- so the rows list no number twice exactly if each row is found by its number
pub apart-once : (rows : List (ClientRow Caller)) → HasDistinctNumbers rows → Apart number_in rows
apart-once [] a = tt
apart-once (r ∷ rows) a = (none-any rows r.number a.0, apart-once rows a.1)

pub once-apart : (rows : List (ClientRow Caller)) → Apart number_in rows → HasDistinctNumbers rows
once-apart [] a = tt
once-apart (r ∷ rows) a = (any-none rows r.number a.0, once-apart rows a.1)

-- a client for which something is stored has a row
pub client-there : (rows : List (ClientRow Caller)) (c : ℕ) (v : Caller)
    → client_value rows c ≡ Some v → has_client rows c ≡ true
client-there rows c v e = value-there number_in value_in rows c v e

-- the rows with a new value in the row of a client
pub writes-caller : (rows : List (ClientRow Caller)) (c : ℕ) (v : Caller)
    → has_client rows c ≡ true → WritesCaller rows (with_client rows c v) c v
writes-caller rows c v has = record {
  look = λ d. value-changed number_in value_in (λ row. record row { value = v }) v (λ r. refl)
      (λ r. refl) rows c d has;
  many = length-map number_in (one_changed number_in (λ row. record row { value = v }) c) rows;
  once = λ once.
      once-apart (with_client rows c v)
      (Apart-map number_in (one_changed number_in (λ row. record row { value = v }) c)
      (one-kept number_in (λ row. record row { value = v }) (λ r. refl) c) rows
      (apart-once rows once));
}

-- the same by a change of the value that was there
pub writes-by : (f : Caller → Caller) (rows : List (ClientRow Caller)) (c : ℕ) (u : Caller)
    → Some u ≡ client_value rows c → (v : Caller) → client_value rows c ≡ Some v
    → WritesCaller rows (with_client rows c (f u)) c (f v)
writes-by f rows c u is v e =
    let same : v ≡ u = cc in
    rw same (writes-caller rows c (f u) (client-there rows c v e))

-- a client's row by a change of the value that was there, and no row at all
pub changes-some : (g : Caller → Caller) (rows : List (ClientRow Caller)) (n c : ℕ) (u : Caller)
    → n ≡ c → Some u ≡ client_value rows n → ChangesCaller rows (with_client rows n (g u)) c g
changes-some g rows n c u same is =
    subst (λ m. ChangesCaller rows (with_client rows n (g u)) m g) same
    (record { look = λ d. written.look d ∙ found d; many = written.many; once = written.once })
  where
    written : WritesCaller rows (with_client rows n (g u)) n (g u)
    written = writes-caller rows n (g u) (client-there rows n u (sym is))

    found : (d : ℕ) → cond (n == d) (Some (g u)) (client_value rows d)
        ≡ cond (n == d) (option_map g (client_value rows d)) (client_value rows d)
    found d = elim (cases_eq n d) [
      | inl e ↦
          rw (eq-eqb n d e)
          (subst (λ m. Some (g u) ≡ option_map g (client_value rows m)) e (ap (option_map g) is))
      | inr ne ↦ rw (ne_eqb n d ne) refl
    ]

pub changes-none : (g : Caller → Caller) (rows : List (ClientRow Caller)) (c : ℕ)
    → ◌≡◌ {A = Option Caller} None (client_value rows c) → ChangesCaller rows rows c g
changes-none g rows c is =
    record { look = λ d. found d; many = refl; once = λ once. once }
  where
    found : (d : ℕ) → client_value rows d
        ≡ cond (c == d) (option_map g (client_value rows d)) (client_value rows d)
    found d = elim (cases_eq c d) [
      | inl e ↦
          rw (eq-eqb c d e)
          (subst (λ n. client_value rows n ≡ option_map g (client_value rows n)) e
          (sym is ∙ ap (option_map g) is))
      | inr ne ↦ rw (ne_eqb c d ne) refl
    ]

-- a client has no row if none is found
unfound : (o : Option (ClientRow Caller)) → is_some o ≡ false → o ≡ None
unfound None e = refl
unfound (Some r) e = cc

-- the rows with a new one
pub adds-caller : (rows : List (ClientRow Caller)) (c : ℕ) (v : Caller)
    → has_client rows c ≡ false → AddsCaller rows (and_client rows c v) c v
adds-caller rows c v has =
    let row : ClientRow Caller = record { number = c; value = v } in
    let new = unfound (client_at rows c) has in
    record {
      look = λ d. value-added number_in value_in rows row d new;
      many = length-added number_in rows row;
      once = λ once.
          once-apart (and_client rows c v)
          (Apart-added number_in rows row new (apart-once rows once));
    }

-- the rows without one
pub removes-caller : (rows : List (ClientRow Caller)) (c : ℕ) → has_client rows c ≡ true
    → RemovesCaller rows (without_client rows c) c
removes-caller rows c has = record {
  look = value-without number_in value_in rows c;
  many = λ once. length-without number_in rows c (apart-once rows once) has;
  once = λ once.
      once-apart (without_client rows c) (Apart-without number_in rows c (apart-once rows once));
}
