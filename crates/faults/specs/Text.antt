-- How a fault is printed.
use Rattle.std.specs.Prelude.{ℕ, List, ◌++◌, codes, decimal}
use Rattle.faults.specs.declared.Layer.{Layer}
use Rattle.faults.specs.declared.Layer.TheVariants.{Record, Number, Table, Order, Call, Machine}
use Rattle.faults.specs.declared.Fault.{Fault}
use Rattle.faults.specs.Faults.{number_of, layer_of, place_of}

abbrev pub layer_text : Layer → List ℕ
layer_text Record = codes "record"
layer_text Number = codes "number"
layer_text Table = codes "table"
layer_text Order = codes "order"
layer_text Call = codes "call"
layer_text Machine = codes "machine"

-- number, layer and place, with a space between
abbrev pub fault_text : Fault → List ℕ
fault_text e = decimal (number_of e) ++ (codes " " ++ (layer_text (layer_of e) ++ (codes " " ++ decimal (place_of e))))
