use Rattle.std.proofs.Common.{◌∷◌, [], arith, refl}
use Rattle.pt_types.proofs.NameLemmas.{filled_front, filled_stand}
use Rattle.pt_types.proofs.name.short_word.Goals as goal

pub returns-in-len1-clause-within : goal.returns-in-len1-clause-within
returns-in-len1-clause-within c = omega (arith, c.in-len1.len_below)

pub returns-in-len1-clause-front : goal.returns-in-len1-clause-front
returns-in-len1-clause-front c =
    filled_front c.args.bytes.now (48 ∷ 48 ∷ 48 ∷ 48 ∷ 48 ∷ 48 ∷ 48 ∷ []) _ 1 c.in-len1.len_at_least
    c.in-len1.len_below c.at_once-word.ensures

pub returns-in-len1-clause-valid : goal.returns-in-len1-clause-valid
returns-in-len1-clause-valid c =
    filled_stand c.args.bytes.now (48 ∷ 48 ∷ 48 ∷ 48 ∷ 48 ∷ 48 ∷ 48 ∷ []) _ 1 c.in-len1.len_at_least
    c.in-len1.len_below c.at_once-word.ensures refl

pub returns-in-len2-clause-within : goal.returns-in-len2-clause-within
returns-in-len2-clause-within c = omega (arith, c.in-len2.len_below)

pub returns-in-len2-clause-front : goal.returns-in-len2-clause-front
returns-in-len2-clause-front c =
    filled_front c.args.bytes.now (48 ∷ 48 ∷ 48 ∷ 48 ∷ 48 ∷ 48 ∷ []) _ 2 c.in-len2.len_at_least
    c.in-len2.len_below c.at_once-word-in-len2.ensures

pub returns-in-len2-clause-valid : goal.returns-in-len2-clause-valid
returns-in-len2-clause-valid c =
    filled_stand c.args.bytes.now (48 ∷ 48 ∷ 48 ∷ 48 ∷ 48 ∷ 48 ∷ []) _ 2 c.in-len2.len_at_least
    c.in-len2.len_below c.at_once-word-in-len2.ensures refl

pub returns-in-len3-clause-within : goal.returns-in-len3-clause-within
returns-in-len3-clause-within c = omega (arith, c.in-len3.len_below)

pub returns-in-len3-clause-front : goal.returns-in-len3-clause-front
returns-in-len3-clause-front c =
    filled_front c.args.bytes.now (48 ∷ 48 ∷ 48 ∷ 48 ∷ 48 ∷ []) _ 3 c.in-len3.len_at_least
    c.in-len3.len_below c.at_once-word-in-len3.ensures

pub returns-in-len3-clause-valid : goal.returns-in-len3-clause-valid
returns-in-len3-clause-valid c =
    filled_stand c.args.bytes.now (48 ∷ 48 ∷ 48 ∷ 48 ∷ 48 ∷ []) _ 3 c.in-len3.len_at_least
    c.in-len3.len_below c.at_once-word-in-len3.ensures refl

pub returns-in-len4-clause-within : goal.returns-in-len4-clause-within
returns-in-len4-clause-within c = omega (arith, c.in-len4.len_below)

pub returns-in-len4-clause-front : goal.returns-in-len4-clause-front
returns-in-len4-clause-front c =
    filled_front c.args.bytes.now (48 ∷ 48 ∷ 48 ∷ 48 ∷ []) _ 4 c.in-len4.len_at_least
    c.in-len4.len_below c.at_once-word-in-len4.ensures

pub returns-in-len4-clause-valid : goal.returns-in-len4-clause-valid
returns-in-len4-clause-valid c =
    filled_stand c.args.bytes.now (48 ∷ 48 ∷ 48 ∷ 48 ∷ []) _ 4 c.in-len4.len_at_least
    c.in-len4.len_below c.at_once-word-in-len4.ensures refl

pub returns-in-len5-clause-within : goal.returns-in-len5-clause-within
returns-in-len5-clause-within c = omega (arith, c.in-len5.len_below)

pub returns-in-len5-clause-front : goal.returns-in-len5-clause-front
returns-in-len5-clause-front c =
    filled_front c.args.bytes.now (48 ∷ 48 ∷ 48 ∷ []) _ 5 c.in-len5.len_at_least
    c.in-len5.len_below c.at_once-word-in-len5.ensures

pub returns-in-len5-clause-valid : goal.returns-in-len5-clause-valid
returns-in-len5-clause-valid c =
    filled_stand c.args.bytes.now (48 ∷ 48 ∷ 48 ∷ []) _ 5 c.in-len5.len_at_least
    c.in-len5.len_below c.at_once-word-in-len5.ensures refl

pub returns-in-len6-clause-within : goal.returns-in-len6-clause-within
returns-in-len6-clause-within c = omega (arith, c.in-len6.len_below)

pub returns-in-len6-clause-front : goal.returns-in-len6-clause-front
returns-in-len6-clause-front c =
    filled_front c.args.bytes.now (48 ∷ 48 ∷ []) _ 6 c.in-len6.len_at_least
    c.in-len6.len_below c.at_once-word-in-len6.ensures

pub returns-in-len6-clause-valid : goal.returns-in-len6-clause-valid
returns-in-len6-clause-valid c =
    filled_stand c.args.bytes.now (48 ∷ 48 ∷ []) _ 6 c.in-len6.len_at_least
    c.in-len6.len_below c.at_once-word-in-len6.ensures refl

pub returns-in-len7-clause-within : goal.returns-in-len7-clause-within
returns-in-len7-clause-within c = omega (arith, c.in-len7.len_below)

pub returns-in-len7-clause-front : goal.returns-in-len7-clause-front
returns-in-len7-clause-front c =
    filled_front c.args.bytes.now (48 ∷ []) _ 7 c.in-len7.len_at_least
    c.in-len7.len_below c.at_once-word-in-len7.ensures

pub returns-in-len7-clause-valid : goal.returns-in-len7-clause-valid
returns-in-len7-clause-valid c =
    filled_stand c.args.bytes.now (48 ∷ []) _ 7 c.in-len7.len_at_least
    c.in-len7.len_below c.at_once-word-in-len7.ensures refl

pub returns-in-len8-clause-within : goal.returns-in-len8-clause-within
returns-in-len8-clause-within c = omega (arith, c.in-len8.len_below)

pub returns-in-len8-clause-front : goal.returns-in-len8-clause-front
returns-in-len8-clause-front c =
    filled_front c.args.bytes.now [] _ 8 c.in-len8.len_at_least
    c.in-len8.len_below c.at_once-word-in-len8.ensures

pub returns-in-len8-clause-valid : goal.returns-in-len8-clause-valid
returns-in-len8-clause-valid c =
    filled_stand c.args.bytes.now [] _ 8 c.in-len8.len_at_least
    c.in-len8.len_below c.at_once-word-in-len8.ensures refl
