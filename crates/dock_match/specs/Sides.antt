-- Which sides of a dock tests leave open.
use Rattle.std.specs.Prelude.{ℕ, Bool, true, false, List, [], Option, None, Some, option_map}
use Rattle.std.specs.Option.{option_and_then}
use Rattle.ad_tree.specs.Frames.{Frame}
use Rattle.conjunct_plan.specs.declared.verdict.Verdict.{Verdict}
use Rattle.conjunct_plan.specs.Decided.{verdict_of}
use Rattle.dock_match.specs.declared.sides.OpenSides.{OpenSides}

-- a verdict leaves its side open; none where it is against
abbrev pub is_open : Verdict → Option Bool
is_open Verdict.Against = None
is_open Verdict.For = Some false
is_open Verdict.Open = Some true

-- the sides of the dock of a request at frame f and a resource that tests leave open, where this is what they say of the request's side
abbrev pub open_beside : Verdict → List Frame → ℕ → List Frame → Option OpenSides
open_beside asked request f resource =
    option_and_then (λ asking. option_map (λ answering. record { request = asking; resource = answering })
    (is_open (verdict_of resource 0 [] request f)))
    (is_open asked)

-- the sides of the dock of a request at frame f, whose ports have these labels, and a resource that tests leave open
abbrev pub open_sides : List Frame → ℕ → List (List ℕ) → List Frame → Option OpenSides
open_sides request f labels resource = open_beside (verdict_of request f labels resource 0) request f resource
