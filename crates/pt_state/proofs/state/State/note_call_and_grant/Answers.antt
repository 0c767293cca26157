use Rattle.std.proofs.Common.{◌≡◌, ◌+◌, ◌++◌, ◌∷◌, [], None, Some, map, length, refl, sym, ap, ◌∙◌}
use Rattle.std.proofs.Common.{arith, subst}
use Rattle.pt_model.specs.declared.entry.Entry.TheVariants.{Call, Grant}
use Rattle.pt_model.specs.Histories.{place}
use Rattle.pt_history.specs.Stored.{Stored}
use Rattle.pt_history.proofs.Places.{place_of_next}
use Rattle.pt_records.specs.Callers.{caller_after_call}
use Rattle.pt_records.specs.Logs.{log_entry}
use Rattle.pt_records.specs.Writes.{WritesCaller}
use Rattle.pt_state.specs.Adds.{history_of, store_with_entry}
use Rattle.pt_state.proofs.state.State.note_call_and_grant.Goals as goal

pub push_grant-requires : goal.push_grant-requires
push_grant-requires g c =
    omega (arith, c.requires.room, ap (λ (s : Stored). s.room) c.push_named.ensures)

pub returns : goal.returns
returns g c =
    let s = c.args.self.now in
    let x = c.args.outcome in
    let calls = store_with_entry s.stored (Call c.args.c c.args.call.now None) in
    let first : c.len-place.result ≡ place (history_of s) =
    c.len-place.ensures ∙ sym (place_of_next s.stored) in
    let next : c.len.result ≡ place (history_of (record s { stored = calls })) =
    c.len.ensures
    ∙ (ap (λ (t : Stored). t.start.at + length t.entries) c.push_named.ensures
    ∙ sym (place_of_next calls)) in
    record {
      stored = c.push_grant.ensures
          ∙ (ap (λ (t : Stored). store_with_entry t
          (Grant c.len-place.result x)) c.push_named.ensures
          ∙ ap (λ n. store_with_entry calls (Grant n x)) first);
      noted = λ v at.
          subst (λ n. WritesCaller s.clients c.note_call.new.clients c.args.c
          (caller_after_call n (Some x) v)) first (c.note_call.ensures v at);
      answers = c.tell.ensures.replies
          ∙ (ap (λ n. map log_entry s.answers.items ++ (
            n,
            record { client = c.args.c; place = c.len-place.result; outcome = x },
          ) ∷ []) next
          ∙ ap (λ n. map log_entry s.answers.items ++ (
            place (history_of (record s { stored = calls })),
            record { client = c.args.c; place = n; outcome = x },
          ) ∷ []) first);
      has_capacity = c.tell.ensures.capacity;
      rest = refl;
    }
