use Rattle.std.proofs.Common.{◌≡◌, ℕ, ◌<◌, length, get_or, take}
use Rattle.model.proofs.Positions.{times}
use Rattle.judging.specs.Standings.{nowhere}
use Rattle.judging.proofs.Locating.{place_below}
use Rattle.judging.proofs.standing.Standing.of.Given as goal

abbrev pub invariant-loop-i : goal.invariant-loop-i
invariant-loop-i l =
    record {
      long : length l.stands ≡ 256;
      placed : (e : ℕ) → e < 256 → (get_or l.stands e nowhere).place ≡ place_below l.order l.i e;
      timed : (e : ℕ) → e < 256 → (get_or l.stands e nowhere).times ≡ times (take l.i l.order) e;
    }
