use Rattle.std.proofs.Common.{◌≡◌, take}
use Rattle.ad_candidates.proofs.known_tests.copy_of_places.Given as goal

abbrev pub invariant-loop-place : goal.invariant-loop-place
invariant-loop-place l = l.copy ≡ take l.place-index l.place-items
