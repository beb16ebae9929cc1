use Rattle.std.proofs.Common.{◌≡◌}
use Rattle.record.proofs.Claims.{PutBelow}
use Rattle.record.proofs.whole.put_claims.Given as goal

abbrev pub invariant-loop-place : goal.invariant-loop-place
invariant-loop-place l =
    PutBelow l.initial.sheet.places.now l.claims l.place l.sheet.places.now
    × (l.sheet.places.ghost_name ≡ l.initial.sheet.places.ghost_name)
