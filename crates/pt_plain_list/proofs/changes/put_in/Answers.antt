use Rattle.std.proofs.Common.{◌==◌, ap, ◌∙◌, ◌||◌, not, filter, refl, arith, length}
use Rattle.pt_waitq.specs.Waits.{is_listed, has_waiter}
use Rattle.pt_plain_list.proofs.AdmittedLemmas.{inserted, fewer-idle}
use Rattle.pt_plain_list.proofs.RoomLemmas.{room-emptied}
use Rattle.pt_plain_list.proofs.changes.put_in.Goals as goal

pub returns-clause-bound : goal.returns-clause-bound
returns-clause-bound g c =
    let idle = c.args.idle.now in
    let left = c.forget_client.new.clients in
    let fewer = fewer-idle c.args.waiter.client idle.items c.requires.admitted in
    let len = c.push_reserved.ensures.len in
    omega (arith, fewer, ap length c.forget_client.ensures.others, idle.ok.0, left.ok.0, len)

pub returns-clause-admitted : goal.returns-clause-admitted
returns-clause-admitted g c = λ d.
    let client = c.args.waiter.client in
    let idle = c.args.idle.now.items in
    let es = c.args.waiting.now.items in
    let left = filter (λ x. not (x == client)) idle in
    ap (λ cs. is_listed d cs || has_waiter d c.push_reserved.new.self.items)
    c.forget_client.ensures.others
    ∙ (ap (λ xs. is_listed d left || has_waiter d xs) c.push_reserved.ensures.items
    ∙ inserted client idle es (c.args.object, c.args.waiter) refl c.requires.admitted d)

pub push_reserved-requires : goal.push_reserved-requires
push_reserved-requires g c =
    let idle = c.args.idle.now in
    room-emptied _ _ _ _ _ c.requires.fits idle.ok.0
    (fewer-idle c.args.waiter.client idle.items c.requires.admitted)
