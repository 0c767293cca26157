use Rattle.std.proofs.Common.{subst, ℕ, ◌+◌, List, ap, sym, ◌∙◌, ◌<◌}
use Rattle.std.proofs.lemmas.List.{get_or_read}
use Rattle.pt_types.specs.declared.call.Call.{Call as CallWords}
use Rattle.pt_types.specs.declared.call.Call.TheVariants.{BarrierInit}
use Rattle.pt_model.specs.declared.entry.Entry.TheVariants.{Call as CallEntry}
use Rattle.pt_model.specs.declared.entry.Entry.TheVariants.{Moment as MomentEntry}
use Rattle.pt_model.specs.declared.entry.Entry.TheVariants.{Trip as TripEntry}
use Rattle.pt_history.specs.declared.compact.Compact.{Compact}
use Rattle.pt_history.specs.Compact.{IsStored, outcome_of_answer, read_compact}
use Rattle.pt_history.specs.Records.{parts_of}
use Rattle.pt_history.proofs.records.Records.entry.Goals as goal

pub name-requires : goal.name-requires
name-requires g c =
    subst (λ (x : Compact). IsStored (parts_of c.args.self.now) x) c.in-Named.is c.requires.stored

pub returns-in-Named : goal.returns-in-Named
returns-in-Named g c = rw (c.in-Named.is, c.call_entry.ensures, c.call_of.ensures, c.name.ensures)

pub returns-in-Timed : goal.returns-in-Timed
returns-in-Timed g c = rw (c.in-Timed.is, c.call_entry-in-Timed.ensures, c.timed.ensures)

pub returns-in-Join : goal.returns-in-Join
returns-in-Join g c = sym (ap (read_compact c.args.base (parts_of c.args.self.now)) c.in-Join.is)

pub returns-in-Death : goal.returns-in-Death
returns-in-Death g c = sym (ap (read_compact c.args.base (parts_of c.args.self.now)) c.in-Death.is)

pub returns-in-Grant : goal.returns-in-Grant
returns-in-Grant g c = sym (ap (read_compact c.args.base (parts_of c.args.self.now)) c.in-Grant.is)

pub returns-in-Trip : goal.returns-in-Trip
returns-in-Trip g c = sym (ap (read_compact c.args.base (parts_of c.args.self.now)) c.in-Trip.is)

pub returns-in-Yield : goal.returns-in-Yield
returns-in-Yield g c = sym (ap (read_compact c.args.base (parts_of c.args.self.now)) c.in-Yield.is)

pub returns-in-Expire : goal.returns-in-Expire
returns-in-Expire g c = sym (ap (read_compact c.args.base
    (parts_of c.args.self.now)) c.in-Expire.is)

pub returns-in-Wait : goal.returns-in-Wait
returns-in-Wait g c =
    c.call_entry-in-Wait.ensures
    ∙ (ap (λ (x : CallWords). CallEntry (c.args.base + c.in-Wait.client) x
    (outcome_of_answer c.in-Wait.answer))
    c.wait.ensures
    ∙ sym (ap (read_compact c.args.base (parts_of c.args.self.now)) c.in-Wait.is))

pub returns-in-TimedWait : goal.returns-in-TimedWait
returns-in-TimedWait g c =
    c.call_entry-in-TimedWait.ensures
    ∙ (ap (λ (x : CallWords). CallEntry (c.args.base + c.in-TimedWait.client) x
    (outcome_of_answer c.in-TimedWait.answer))
    c.timed_wait.ensures
    ∙ sym (ap (read_compact c.args.base (parts_of c.args.self.now)) c.in-TimedWait.is))

pub returns-in-Barrier : goal.returns-in-Barrier
returns-in-Barrier g c =
    let k = c.in-Barrier.count in
    c.call_entry-in-Barrier.ensures
    ∙ (ap (λ (n : List ℕ). CallEntry (c.args.base + c.in-Barrier.client) (BarrierInit n k)
    (outcome_of_answer c.in-Barrier.answer)) c.name-in-Barrier.ensures
    ∙ sym (ap (read_compact c.args.base (parts_of c.args.self.now)) c.in-Barrier.is))

pub returns-in-Moment : goal.returns-in-Moment
returns-in-Moment g c =
    let p = parts_of c.args.self.now in
    ap (MomentEntry c.in-Moment.clock)
    (get_or_read p.moments c.in-Moment.index c.index.result.now
    (subst (λ (x : Compact). IsStored p x) c.in-Moment.is c.requires.stored) c.index.ensures 0)
    ∙ sym (ap (read_compact c.args.base (parts_of c.args.self.now)) c.in-Moment.is)

pub returns-in-Whole : goal.returns-in-Whole
returns-in-Whole g c =
    let p = parts_of c.args.self.now in
    c.copied.ensures
    ∙ (get_or_read p.wholes c.in-Whole.index c.index-in-Whole.result.now
    (subst (λ (x : Compact). IsStored p x) c.in-Whole.is c.requires.stored)
    c.index-in-Whole.ensures (TripEntry 0)
    ∙ sym (ap (read_compact c.args.base (parts_of c.args.self.now)) c.in-Whole.is))

pub index-requires : goal.index-requires
index-requires g c =
    let p = parts_of c.args.self.now in
    subst (λ (n : ℕ). c.in-Moment.index < n) (sym c.args.self.now.moments.ok.0)
    (subst (λ (x : Compact). IsStored p x) c.in-Moment.is c.requires.stored)

pub index-requires-in-Whole : goal.index-requires-in-Whole
index-requires-in-Whole g c =
    let p = parts_of c.args.self.now in
    subst (λ (n : ℕ). c.in-Whole.index < n) (sym c.args.self.now.wholes.ok.0)
    (subst (λ (x : Compact). IsStored p x) c.in-Whole.is c.requires.stored)
