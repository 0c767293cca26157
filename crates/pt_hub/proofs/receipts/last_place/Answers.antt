use Rattle.std.proofs.Common.{Some, None}
use Rattle.pt_hub.proofs.ReceiptOrder.{last_of}
use Rattle.pt_hub.proofs.receipts.last_place.Goals as goal

pub returns-in-Some : goal.returns-in-Some
returns-in-Some c =
    last_of c.args.joined c.args.receipts.now (Some c.in-Some.receipt.now) c.in-Some.ensures.value

pub returns-in-None : goal.returns-in-None
returns-in-None c = last_of c.args.joined c.args.receipts.now None c.in-None.ensures.value
