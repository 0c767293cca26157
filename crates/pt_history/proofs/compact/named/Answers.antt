use Rattle.std.proofs.Common.{sym}
use Rattle.pt_history.proofs.compact.named.Goals as goal

pub returns-in-MutexInit : goal.returns-in-MutexInit
returns-in-MutexInit c = sym c.in-MutexInit.is

pub returns-in_ok-verb-in_default : goal.returns-in_ok-verb-in_default
returns-in_ok-verb-in_default c = c.in_ok-verb-in_default.ensures.found
