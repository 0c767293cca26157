-- The tables of a state whose entries are dropped.
use Rattle.std.proofs.Common.{◌≡◌, [], subst, sym, ap, ◌∙◌}
use Rattle.pt_model.specs.Histories.{Begin}
use Rattle.pt_model.specs.StartRows.{start_of_rows}
use Rattle.pt_model.specs.Seals.{seal}
use Rattle.pt_history.specs.Stored.{Stored, stored_history}
use Rattle.pt_state.specs.declared.state.State.{State}
use Rattle.pt_state.specs.Adds.{history_of}
use Rattle.pt_state.specs.Reads.{AreTables, Reads}
use Rattle.pt_state.proofs.SealLemmas.{reads-seal}
use Rattle.pt_state.specs.Sealed.{Seals}

-- a stored history without entries is its Start
begins-there : (s : Stored) → s.entries ≡ [] → stored_history s ≡ Begin (start_of_rows s.start)
begins-there s e = ap (λ es. stored_history (record s { entries = es })) e

module _ {A : Type 0} where
  -- the tables are those of the seal
  pub tables-sealed : (old new : State A) → AreTables old
      → start_of_rows new.stored.start ≡ seal (history_of old) → new.stored.entries ≡ []
      → new.clients ≡ old.clients → new.objects ≡ old.objects → new.orphans ≡ old.orphans
      → new.clocks ≡ old.clocks → new.answers.items ≡ [] → AreTables new
  tables-sealed old new read starts entries clients objects orphans clocks answers =
      let h = begins-there new.stored entries ∙ ap Begin starts in
      let was : Reads (Begin (seal (history_of old))) old.clients old.objects old.orphans old.clocks
      [] =
      reads-seal (history_of old) old.clients old.objects old.orphans old.clocks old.answers.items
      read in
      subst (λ h. Reads h new.clients new.objects new.orphans new.clocks new.answers.items) (sym h)
      (subst (λ rows. Reads (Begin (seal (history_of old))) rows new.objects new.orphans new.clocks
      new.answers.items) (sym clients)
      (subst (λ rows. Reads (Begin (seal (history_of old))) old.clients rows new.orphans new.clocks
      new.answers.items) (sym objects)
      (subst (λ head. Reads (Begin (seal (history_of old))) old.clients old.objects head new.clocks
      new.answers.items) (sym orphans)
      (subst (λ kept. Reads (Begin (seal (history_of old))) old.clients old.objects old.orphans kept
      new.answers.items) (sym clocks)
      (subst (λ replies. Reads (Begin (seal (history_of old))) old.clients old.objects old.orphans
      old.clocks replies) (sym answers) was)))))

  -- the history begins with the seal
  pub history_of-sealed : (old new : State A) → Seals old new → history_of new
      ≡ Begin (seal (history_of old))
  history_of-sealed old new s = begins-there new.stored s.entries ∙ ap Begin s.starts
