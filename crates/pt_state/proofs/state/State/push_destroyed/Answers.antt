use Rattle.std.proofs.Common.{refl, sym, ◌∙◌}
use Rattle.pt_state.proofs.CallObjects.{end-found, end-has, end-nearly}
use Rattle.pt_state.proofs.state.State.push_destroyed.Goals as goal

pub unwrap-o-requires : goal.unwrap-o-requires
unwrap-o-requires g c =
    let o = end-found c.args.self.now c.args.c c.args.call.now c.requires.has_room c.args.n.now
    c.args.class c.requires.operation in
    rw (c.requires.found, o.1) refl

pub remove-requires : goal.remove-requires
remove-requires g c =
    end-has c.args.self.now c.args.c c.args.call.now c.requires.has_room c.args.n.now
    c.args.class c.unwrap-o.result
    (sym c.requires.found ∙ c.unwrap-o.ensures)

pub finish-requires : goal.finish-requires
finish-requires g c =
    end-nearly c.args.self.now c.args.c c.args.call.now c.requires.has_room c.args.n.now
    c.args.class c.requires.operation c.unwrap-o.result
    (sym c.requires.found ∙ c.unwrap-o.ensures)
    c.remove.new.objects c.remove.ensures

pub returns : goal.returns
returns g c =
    let a = c.finish.ensures in
    record { stored = a.stored; read = a.read; has_capacity = a.has_capacity; replies = a.replies }
