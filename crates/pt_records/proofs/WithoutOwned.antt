-- Rows of clients that differ only in the mutexes that they own.
use Rattle.std.proofs.Common.{◌≡◌, ◌∙◌, ℕ, Bool, true, false, cond, nat_eq, List, [], ◌∷◌, Option}
use Rattle.std.proofs.Common.{Some, option_map, refl, ap}
use Rattle.std.proofs.lemmas.Bool.{eqb-true}
use Rattle.pt_table.specs.declared.clients.ClientRow.{ClientRow}
use Rattle.pt_table.specs.ClientRows.{client_at, client_value, with_client}
use Rattle.pt_records.specs.declared.clients.Caller.{Caller}
use Rattle.pt_records.specs.Callers.{HasDistinctNumbers}
use Rattle.pt_records.specs.Chained.{rows_without_owned, without_owned}
use Rattle.pt_records.proofs.RowLemmas.{Apart}
use Rattle.pt_records.proofs.CallerWrites.{number_in, value_in, apart-once}
use Rattle.pt_records.proofs.CallerScans.{with-none}

-- writing another head to a client's row changes nothing else
pub rows_without_owned-with : (rows : List (ClientRow Caller)) (c : ℕ) (u : Caller)
    (head : Option ℕ)
    → HasDistinctNumbers rows → Some u ≡ client_value rows c
    → rows_without_owned (with_client rows c (record u { owned = head })) ≡ rows_without_owned rows
rows_without_owned-with rows c u head once is = all rows (apart-once rows once) is
  where
    all : (rs : List (ClientRow Caller)) → Apart number_in rs → Some u ≡ client_value rs c
        → rows_without_owned (with_client rs c (record u { owned = head })) ≡ rows_without_owned rs
    all [] a is = refl
    all (r ∷ rs) a is = go (all rs a.1) (nat_eq c r.number) refl is
      where
        go : (Some u ≡ client_value rs c
            → rows_without_owned (with_client rs c (record u { owned = head }))
            ≡ rows_without_owned rs)
            → (b : Bool) → nat_eq c r.number ≡ b
            → Some u ≡ option_map value_in (cond b (Some r) (client_at rs c))
            → rows_without_owned (cond b (record r { value = record u { owned = head } }) r
            ∷ with_client rs c (record u { owned = head })) ≡ rows_without_owned (r ∷ rs)
        go ih true t is =
            let same : u ≡ r.value = cc in
            ap (λ xs. without_owned (record r { value = u }) ∷ rows_without_owned xs)
            (with-none rs c (record u { owned = head })
            (ap (client_at rs) (eqb-true c r.number t) ∙ a.0))
            ∙ ap (λ x. without_owned (record r { value = x }) ∷ rows_without_owned rs) same
        go ih false t is = ap (λ xs. without_owned r ∷ xs) (ih is)
