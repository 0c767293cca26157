use Rattle.std.proofs.Common.{◌≡◌, ℕ, ◌+◌, ◌<◌, List, [], ◌∷◌, ◌++◌, get_or, length, take, sym, ap}
use Rattle.std.proofs.Common.{◌∙◌, append_assoc}
use Rattle.std.proofs.lemmas.List.{map-append, take_all, take_more}
use Rattle.pt_model.specs.declared.start.StartReader.{StartReader}
use Rattle.pt_state.specs.Copies.{reader_start, readers_of}
use Rattle.pt_state.proofs.sealing.readers.add_readers_of.Goals as goal

-- one more row was copied
one_more : (o i : ℕ) (rows : List (ℕ × ℕ)) (before so_far now : List StartReader)
    → i < length rows → now ≡ so_far ++ reader_start o (get_or rows i (0, 0)) ∷ []
    → so_far ≡ before ++ readers_of o (take i rows)
    → now ≡ before ++ readers_of o (take (i + 1) rows)
one_more o i rows before so_far now lt is kept =
    let row = get_or rows i (0, 0) in
    is
    ∙ (ap (λ l. l ++ reader_start o row ∷ []) kept
    ∙ (append_assoc before (readers_of o (take i rows)) (reader_start o row ∷ [])
    ∙ ap (λ l. before ++ l) (sym (ap (readers_of o) (take_more rows i (0, 0) lt)
    ∙ map-append (reader_start o) (take i rows) (row ∷ [])))))

pub loop-client-preserved : goal.loop-client-preserved
loop-client-preserved g c =
    one_more c.args.number c.loop-client.client-index c.readers-readers.result.now
    c.args.rows.now.items c.loop-client.rows.items c.push.new.self.items c.loop-client-test.true
    c.in_ok-push.ensures.items c.loop-client.invariant

pub returns : goal.returns
returns g c =
    c.loop-client.invariant
    ∙ ap (λ rows. c.args.rows.now.items ++ readers_of c.args.number rows)
    (take_all c.loop-client.client-index c.readers-readers.result.now c.loop-client-test.false
    ∙ c.readers-readers.ensures)
