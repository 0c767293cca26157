-- ObjectViews: this crate's objects in the model's terms.
use Rattle.pt_model.specs.Records.{Object}
use Rattle.pt_readings.specs.declared.objects.Object.{Object as PlainObject}

-- an object in the model's terms
abbrev pub plain_object_view : PlainObject → Object
plain_object_view o = record { number = o.number; kind = o.kind }
