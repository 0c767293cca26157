use Rattle.std.proofs.Common.{◌≡◌, ◌+◌, ◌*◌, ◌-◌, ◌/◌, ◌≤◌, ◌<◌, ◌∙◌, ℕ, ap, sym, List, [], take}
use Rattle.std.proofs.Common.{drop, length, get_or, arith}
use Rattle.std.specs.Simd.{first_chunks}
use Rattle.pt_lanes.proofs.SetLemmas.{NoneFrom, none_set, highest-is, is-highest, is-none}
use Rattle.pt_lanes.proofs.BlockLemmas.{highest-block, NoneFrom-drop, NoneFrom-block}
use Rattle.pt_lanes.proofs.BlockLemmas.{get_or-first_chunks}
use Rattle.pt_lanes.proofs.kernel.highest.Goals as goal

rest_is : (xs rest : List ℕ) (count : ℕ) → rest ≡ drop (length xs / 8 * 8) xs
    → count ≡ length xs / 8 → rest ≡ drop (8 * count) xs
rest_is xs rest count back len = back ∙ ap (λ n. drop n xs) (omega arith)

block_is : (xs : List ℕ) (blocks : List (List ℕ)) (b : ℕ)
    → blocks ≡ first_chunks 8 (length xs / 8) xs → length blocks ≡ length xs / 8
    → 0 < b → b ≤ length blocks → get_or blocks (b - 1) [] ≡ take 8 (drop (8 * (b - 1)) xs)
block_is xs blocks b front len pos le =
    ap (λ bs. get_or bs (b - 1) []) front
    ∙ get_or-first_chunks 8 (length xs / 8) (b - 1) xs (omega arith)
    ∙ ap (λ n. take 8 (drop n xs)) (omega arith)

above_block : (xs : List ℕ) (b : ℕ) → NoneFrom xs (8 * b) → 0 < b → NoneFrom xs (8 * (b - 1) + 8)
above_block xs b h pos = λ k le. h k (omega arith)

pub loop-block-init : goal.loop-block-init
loop-block-init c =
    let xs = c.args.counts.now in
    let split = c.as_chunks in
    let count = length split.result.0.now in
    let e = rest_is xs split.result.1.now count split.ensures.back split.ensures.front_len in
    let none = is-none split.result.1.now c.in_default.ensures in
    λ k le. NoneFrom-drop xs (8 * count) 0 (rw e at none) k (omega arith)

pub returns-in-Some-highest : goal.returns-in-Some-highest
returns-in-Some-highest c =
    let xs = c.args.counts.now in
    let split = c.as_chunks.ensures in
    let b = c.loop-block.block in
    let blocks = c.as_chunks.result.0.now in
    let e = block_is xs blocks b split.front split.front_len (omega arith) (omega arith) in
    let i = c.in-Some-highest.i in
    let found = is-highest (get_or blocks (b - 1) []) i c.in-Some-highest.ensures in
    let above = above_block xs b c.loop-block.invariant (omega arith) in
    highest-is xs _ (highest-block xs (8 * (b - 1)) 8 i above (rw e at found))

pub loop-block-preserved-in_default-highest : goal.loop-block-preserved-in_default-highest
loop-block-preserved-in_default-highest c =
    let xs = c.args.counts.now in
    let split = c.as_chunks.ensures in
    let b = c.loop-block.block in
    let blocks = c.as_chunks.result.0.now in
    let e = block_is xs blocks b split.front split.front_len (omega arith) (omega arith) in
    let none = is-none (get_or blocks (b - 1) []) c.in_default-highest.ensures in
    let above = above_block xs b c.loop-block.invariant (omega arith) in
    λ k le. NoneFrom-block xs (8 * (b - 1)) 8 0 (rw e at none) above k (omega arith)

pub loop-block-preserved : goal.loop-block-preserved
loop-block-preserved c =
    let xs = c.args.counts.now in
    let split = c.as_chunks.ensures in
    let b = c.loop-block.block in
    let blocks = c.as_chunks.result.0.now in
    let e = block_is xs blocks b split.front split.front_len (omega arith) (omega arith) in
    let none = none_set (get_or blocks (b - 1) []) (sym c.if-block_has_any.ensures) in
    let above = above_block xs b c.loop-block.invariant (omega arith) in
    λ k le. NoneFrom-block xs (8 * (b - 1)) 8 0 (rw e at none) above k (omega arith)
