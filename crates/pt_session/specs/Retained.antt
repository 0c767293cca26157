-- Retained: the calls of a client and the moments of a clock, by what is retained of them.
use Rattle.std.specs.Prelude.{List, [], ◌++◌}
use Rattle.pt_hub.specs.declared.pass.Receipt.{Receipt}
use Rattle.pt_hub.specs.declared.pass.Tick.{Tick}
use Rattle.pt_hub.specs.Passes.{PassView, ClockView}
use Rattle.pt_session.specs.declared.kinds.Retention.{Retention}
use Rattle.pt_session.specs.declared.kinds.Retention.TheVariants.{Complete, Pending}

-- the receipts of all calls of a client: those that it has, if all are retained, else those that
-- were discarded too  [profile]
abbrev pub receipts_by : Retention → PassView → List Receipt
receipts_by Complete p = p.receipts
receipts_by Pending p = p.discarded ++ p.receipts

-- a client whose receipts are discarded, unless all are retained  [profile]
abbrev pub settled : Retention → PassView → PassView
settled Complete p = p
settled Pending p = record p { discarded = p.discarded ++ p.receipts; receipts = [] }

-- all moments of a clock: those that it has, if all are retained, else those that were discarded
-- too  [profile]
abbrev pub moments_by : Retention → ClockView → List Tick
moments_by Complete c = c.moments
moments_by Pending c = c.discarded ++ c.moments

-- a clock whose moments are discarded, unless all are retained  [profile]
abbrev pub settled_clock : Retention → ClockView → ClockView
settled_clock Complete c = c
settled_clock Pending c = record { discarded = c.discarded ++ c.moments; moments = [] }
