use Rattle.std.proofs.Common.{[], ◌∷◌, refl, inl, inr}
use Rattle.pt_parts_tests.proofs.tests.table.is_chain_sorted.Goals as goal

pub link_free-other-requires-clause-chain : goal.link_free-other-requires-clause-chain
link_free-other-requires-clause-chain c = (4 ∷ [], c.link_free-low.ensures.chain [] refl)

pub link_free-second-requires-clause-chain : goal.link_free-second-requires-clause-chain
link_free-second-requires-clause-chain c = (5 ∷ [], c.link_free-first.ensures.chain [] refl)

pub link_free-third-requires-clause-chain : goal.link_free-third-requires-clause-chain
link_free-third-requires-clause-chain c =
    let one = c.link_free-first.ensures.chain [] refl in
    (2 ∷ 5 ∷ [], c.link_free-second.ensures.chain (5 ∷ []) one)

pub link_free-head-requires-clause-chain : goal.link_free-head-requires-clause-chain
link_free-head-requires-clause-chain c =
    let one = c.link_free-first.ensures.chain [] refl in
    let two = c.link_free-second.ensures.chain (5 ∷ []) one in
    (1 ∷ 2 ∷ 5 ∷ [], c.link_free-third.ensures.chain (2 ∷ 5 ∷ []) two)

pub unlink-left-requires : goal.unlink-left-requires
unlink-left-requires c =
    let one = c.link_free-first.ensures.chain [] refl in
    let two = c.link_free-second.ensures.chain (5 ∷ []) one in
    let three = c.link_free-third.ensures.chain (2 ∷ 5 ∷ []) two in
    let four = c.link_free-head.ensures.chain (1 ∷ 2 ∷ 5 ∷ []) three in
    (3 ∷ 1 ∷ 2 ∷ 5 ∷ [], four, inr (inr (inl refl)))

pub sort-sorted-requires : goal.sort-sorted-requires
sort-sorted-requires c =
    let one = c.link_free-first.ensures.chain [] refl in
    let two = c.link_free-second.ensures.chain (5 ∷ []) one in
    let three = c.link_free-third.ensures.chain (2 ∷ 5 ∷ []) two in
    let four = c.link_free-head.ensures.chain (1 ∷ 2 ∷ 5 ∷ []) three in
    (3 ∷ 1 ∷ 5 ∷ [], c.unlink-left.ensures.chain (3 ∷ 1 ∷ 2 ∷ 5 ∷ []) four)
