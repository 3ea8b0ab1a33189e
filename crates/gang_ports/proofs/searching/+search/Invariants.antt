use Rattle.std.proofs.Common.{◌≡◌, ◌≤◌, ◌+◌, ◌*◌, suc, length, map}
use Rattle.eval_scope.specs.Shown.{world_of}
use Rattle.ad_eval.specs.Small.{AreSmall}
use Rattle.dock_match.specs.Pool.{Pool}
use Rattle.gang_ports.specs.Search.{HaveSides, IsBehind}
use Rattle.gang_ports.specs.Small.{AreSmallSides}
use Rattle.gang_ports.proofs.SearchLemmas.{place_of}
use Rattle.gang_ports.proofs.TurnLemmas.{Place, SoFar}
use Rattle.gang_ports.proofs.searching.+search.Given as goal

abbrev pub decreases-search : goal.decreases-search
decreases-search g l = length l.sides.now

-- nothing was found behind the candidates so far
abbrev pub invariant-loop-candidate : goal.invariant-loop-candidate
invariant-loop-candidate g l =
    let w = world_of l.world in
    let start : Place = record { left = l.initial.others; places = l.initial.before.items; tops = l.initial.tops; entry = l.initial.entry } in
    let here : Place = record { left = l.others; places = l.before.items; tops = l.tops; entry = l.entry } in
    record {
      long : length l.others ≡ length l.initial.others;
      so_far : (pool : Pool) → IsBehind pool w start.places l.fn.sides → SoFar pool w (map place_of l.candidate-items) l.candidate-index start here;
      small : AreSmallSides l.fn.sides → AreSmallSides l.others;
      tests : HaveSides w.request w.ports (suc (length w.docked)) l.others;
      ratio : AreSmall w → AreSmallSides l.fn.sides → l.entry + 9216 * l.initial.tops ≤ l.initial.entry + 9216 * l.tops;
    }
