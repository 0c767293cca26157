use Rattle.std.proofs.Common.{◌*◌, vec_len, vec_capacity}
use Rattle.std.proofs.lemmas.Result.{on_ok_weaker}
use Rattle.pt_history.proofs.Widened.{SameLists, other-hints, unchanged, keeps-after, room-for}
use Rattle.pt_history.proofs.Widened.{no-need, not-refused, still-room}
use Rattle.pt_history.proofs.records.Records.reserve.Goals.{
  then-capacity-len+in_ok-grow_to_max,
  else-capacity-len,
}
use Rattle.pt_history.proofs.records.Records.reserve.Goals as goal

pub returns-in_err-reserve-clause-parts : goal.returns-in_err-reserve-clause-parts
returns-in_err-reserve-clause-parts g c =
    let mid = c.if-capacity-len.self in
    let same : SameLists c.args.self.now mid = elim c.if-capacity-len.branch [
      | then-capacity-len+in_ok-grow_to_max w ↦ other-hints c.args.self.now mid _ w.self-is
      | else-capacity-len w ↦ other-hints c.args.self.now mid c.args.self.now.hints w.self-is
    ] in
    keeps-after c.args.self.now mid _ same
    (record {
      items = c.reserve.ensures.items;
      len = c.reserve.ensures.len;
      capacity = c.reserve.ensures.capacity;
    })
    (unchanged mid.limits)
    (unchanged mid.moments)
    (unchanged mid.wholes)

pub returns-in_err-reserve-2-clause-parts : goal.returns-in_err-reserve-2-clause-parts
returns-in_err-reserve-2-clause-parts g c =
    let mid = c.if-capacity-len.self in
    let same : SameLists c.args.self.now mid = elim c.if-capacity-len.branch [
      | then-capacity-len+in_ok-grow_to_max w ↦ other-hints c.args.self.now mid _ w.self-is
      | else-capacity-len w ↦ other-hints c.args.self.now mid c.args.self.now.hints w.self-is
    ] in
    keeps-after c.args.self.now mid _ same
    (record {
      items = c.reserve.ensures.items;
      len = c.reserve.ensures.len;
      capacity = c.reserve.ensures.capacity;
    })
    (record {
      items = c.reserve-2.ensures.items;
      len = c.reserve-2.ensures.len;
      capacity = c.reserve-2.ensures.capacity;
    })
    (unchanged mid.moments)
    (unchanged mid.wholes)

pub returns-in_err-reserve-3-clause-parts : goal.returns-in_err-reserve-3-clause-parts
returns-in_err-reserve-3-clause-parts g c =
    let mid = c.if-capacity-len.self in
    let same : SameLists c.args.self.now mid = elim c.if-capacity-len.branch [
      | then-capacity-len+in_ok-grow_to_max w ↦ other-hints c.args.self.now mid _ w.self-is
      | else-capacity-len w ↦ other-hints c.args.self.now mid c.args.self.now.hints w.self-is
    ] in
    keeps-after c.args.self.now mid _ same
    (record {
      items = c.reserve.ensures.items;
      len = c.reserve.ensures.len;
      capacity = c.reserve.ensures.capacity;
    })
    (record {
      items = c.reserve-2.ensures.items;
      len = c.reserve-2.ensures.len;
      capacity = c.reserve-2.ensures.capacity;
    })
    (record {
      items = c.reserve-3.ensures.items;
      len = c.reserve-3.ensures.len;
      capacity = c.reserve-3.ensures.capacity;
    })
    (unchanged mid.wholes)

pub returns-clause-parts : goal.returns-clause-parts
returns-clause-parts g c =
    let mid = c.if-capacity-len.self in
    let same : SameLists c.args.self.now mid = elim c.if-capacity-len.branch [
      | then-capacity-len+in_ok-grow_to_max w ↦ other-hints c.args.self.now mid _ w.self-is
      | else-capacity-len w ↦ other-hints c.args.self.now mid c.args.self.now.hints w.self-is
    ] in
    keeps-after c.args.self.now mid _ same
    (record {
      items = c.reserve.ensures.items;
      len = c.reserve.ensures.len;
      capacity = c.reserve.ensures.capacity;
    })
    (record {
      items = c.reserve-2.ensures.items;
      len = c.reserve-2.ensures.len;
      capacity = c.reserve-2.ensures.capacity;
    })
    (record {
      items = c.reserve-3.ensures.items;
      len = c.reserve-3.ensures.len;
      capacity = c.reserve-3.ensures.capacity;
    })
    (record {
      items = c.reserve-4.ensures.items;
      len = c.reserve-4.ensures.len;
      capacity = c.reserve-4.ensures.capacity;
    })

pub returns-in_err-grow_to_max-clause-succeeds_if :
    goal.returns-in_err-grow_to_max-clause-succeeds_if
returns-in_err-grow_to_max-clause-succeeds_if g c =
    let texts = c.args.self.now.texts in
    λ h. no-need (vec_capacity texts) (vec_len texts) c.capacity.result c.len.result
    (64 * c.args.room) _ c.capacity.ensures c.len.ensures c.if-capacity-len.true h.texts

pub returns-in_err-reserve-clause-succeeds_if : goal.returns-in_err-reserve-clause-succeeds_if
returns-in_err-reserve-clause-succeeds_if g c =
    let mid = c.if-capacity-len.self in
    let same : SameLists c.args.self.now mid = elim c.if-capacity-len.branch [
      | then-capacity-len+in_ok-grow_to_max w ↦ other-hints c.args.self.now mid _ w.self-is
      | else-capacity-len w ↦ other-hints c.args.self.now mid c.args.self.now.hints w.self-is
    ] in
    λ h. not-refused c.args.self.now.texts mid.texts (64 * c.args.room) _ same.texts h.texts
    c.in_err-reserve.ensures.full

pub returns-in_err-reserve-2-clause-succeeds_if : goal.returns-in_err-reserve-2-clause-succeeds_if
returns-in_err-reserve-2-clause-succeeds_if g c =
    let mid = c.if-capacity-len.self in
    let same : SameLists c.args.self.now mid = elim c.if-capacity-len.branch [
      | then-capacity-len+in_ok-grow_to_max w ↦ other-hints c.args.self.now mid _ w.self-is
      | else-capacity-len w ↦ other-hints c.args.self.now mid c.args.self.now.hints w.self-is
    ] in
    λ h. not-refused c.args.self.now.limits mid.limits c.args.room _ same.limits h.limits
    c.in_err-reserve-2.ensures.full

pub returns-in_err-reserve-3-clause-succeeds_if : goal.returns-in_err-reserve-3-clause-succeeds_if
returns-in_err-reserve-3-clause-succeeds_if g c =
    let mid = c.if-capacity-len.self in
    let same : SameLists c.args.self.now mid = elim c.if-capacity-len.branch [
      | then-capacity-len+in_ok-grow_to_max w ↦ other-hints c.args.self.now mid _ w.self-is
      | else-capacity-len w ↦ other-hints c.args.self.now mid c.args.self.now.hints w.self-is
    ] in
    λ h. not-refused c.args.self.now.moments mid.moments c.args.room _ same.moments h.moments
    c.in_err-reserve-3.ensures.full

pub returns-clause-succeeds_if : goal.returns-clause-succeeds_if
returns-clause-succeeds_if g c =
    let mid = c.if-capacity-len.self in
    let same : SameLists c.args.self.now mid = elim c.if-capacity-len.branch [
      | then-capacity-len+in_ok-grow_to_max w ↦ other-hints c.args.self.now mid _ w.self-is
      | else-capacity-len w ↦ other-hints c.args.self.now mid c.args.self.now.hints w.self-is
    ] in
    λ h. c.reserve-4.ensures.succeeds
    (still-room c.args.self.now.wholes mid.wholes c.args.room same.wholes h.wholes)

pub returns-clause-ok : goal.returns-clause-ok
returns-clause-ok g c =
    on_ok_weaker c.reserve-4.result
    (λ w. room-for _ c.args.room c.in_ok-reserve.ensures.ok c.in_ok-reserve-2.ensures.ok
    c.in_ok-reserve-3.ensures.ok w) c.reserve-4.ensures.ok
