-- What a whole run leaves: any calls on a new machine, refused ones included, and finishing.
use Rattle.std.specs.Prelude.{◌≡◌, List}
use Rattle.tables.specs.Size.{unit}
use Rattle.tables.specs.Rows.{Rows}
use Rattle.tables.specs.Contents.{contents}
use Rattle.tables.specs.View.{cell_at}
use Rattle.rules.specs.Waits.{Waits}
use Rattle.model.specs.declared.call.Call.{Call}
use Rattle.model.specs.Program.{Words}
use Rattle.model.specs.Machine.{finish, cut}
use Rattle.model.specs.Theorems.{ran, EndsWell}
use Rattle.machine.specs.declared.ended.Ended.{Ended}
use Rattle.machine.specs.Endings.{order_of}

pub record Played {M : Type 0} (w : Waits) (K : Words M) (ts : List Rows) (calls : List Call) (sheet : List M) (e : Ended) (sheet' : List M) : Type 0 where
  -- the order meets the axioms for the lines issued and the words on the sheet
  pub well : EndsWell w K unit (contents e.tables) (order_of e) sheet sheet'
  -- and all is as the calls and finishing leave it
  pub order : order_of e ≡ (finish unit (cell_at unit ts) (ran w K unit ts calls sheet).state).order
  pub lines : contents e.tables ≡ cut (ran w K unit ts calls sheet).state.issued ts
  pub words : sheet' ≡ (ran w K unit ts calls sheet).sheet
