-- What a name finds: the first of its candidates that has it.
use Rattle.std.specs.Prelude.{ℕ, zero, suc, List, [], ◌∷◌, ◌++◌, map, Option, Some, None, option_map, cond, IsSome}
use Rattle.pool_text.specs.declared.language.AdPlace.{AdPlace}
use Rattle.pool_text.specs.declared.language.Pos.{Pos}
use Rattle.ad_tree.specs.declared.tree.Scope.{Scope}
use Rattle.ad_tree.specs.declared.request.Port.{Port}
use Rattle.ad_tree.specs.Enclosing.{enclosing_frames}
use Rattle.ad_tree.specs.Special.{attribute_named, rank_of, requirement_of}
use Rattle.ad_tree.specs.Names.{same_name}
use Rattle.ad_tree.specs.Frames.{Frame}
use Rattle.eval_scope.specs.declared.found.Found.{Found}
use Rattle.eval_scope.specs.World.{PlainWorld, expr_of, frames_of_ad, target}

-- a place to look for a name: the frame at a place, or a label that stands for ad k
pub data Candidate : Type 0 where
  in_frame : AdPlace → Candidate
  label_of : ℕ → List ℕ → Candidate

-- the attribute of that name in the frame at a place, none where that frame has no such name
abbrev pub attribute_in : PlainWorld → AdPlace → List ℕ → Option Pos
attribute_in w p name =
    option_map (λ k. record { ad = p.ad; frame = p.frame; attr = k }) (attribute_named (frames_of_ad w p.ad) p.frame name)

-- the requirement of the frame at a place, and its rank, where it has one
abbrev pub requirement_at : PlainWorld → AdPlace → Option Pos
requirement_at w p = option_map (λ k. record { ad = p.ad; frame = p.frame; attr = k }) (requirement_of (frames_of_ad w p.ad) p.frame)

abbrev pub rank_at : PlainWorld → AdPlace → Option Pos
rank_at w p = option_map (λ k. record { ad = p.ad; frame = p.frame; attr = k }) (rank_of (frames_of_ad w p.ad) p.frame)

-- what a name finds where an attribute of that name may be
abbrev pub found_attribute : Option Pos → Found
found_attribute None = Found.Nothing
found_attribute (Some s) = Found.Attr s

-- what a candidate has of a name: its attribute, or the root of the ad for which the label stands
abbrev pub found_at : PlainWorld → List ℕ → Candidate → Found
found_at w name (in_frame p) = found_attribute (attribute_in w p name)
found_at w name (label_of k label) = cond (same_name name label) (Found.Place (record { ad = k; frame = 0 })) Found.Nothing

-- the second where the first is nothing
abbrev pub or_else : Found → Found → Found
or_else Found.Nothing next = next
or_else found next = found

-- what the first candidate has that has the name
abbrev pub first_found : PlainWorld → List ℕ → List Candidate → Found
first_found w name [] = Found.Nothing
first_found w name (c ∷ cs) = or_else (found_at w name c) (first_found w name cs)

-- the frame at a place, its parent, and so on up to the root
abbrev pub enclosing : PlainWorld → AdPlace → List Candidate
enclosing w p = map (λ f. in_frame (record { ad = p.ad; frame = f })) (enclosing_frames (frames_of_ad w p.ad) p.frame)

-- the labels of the ports at which ads are docked, for the ads from k on
abbrev pub labels_from : ℕ → List Port → List (List Frame) → List Candidate
labels_from k (port ∷ ports) (ad ∷ docked) = label_of k port.label ∷ labels_from (suc k) ports docked
labels_from k ports docked = []

-- the labels that expressions of ad k see: the request's alone sees those of its docked ports
abbrev pub labels : PlainWorld → ℕ → List Candidate
labels w zero = labels_from 1 w.ports w.docked
labels w (suc k) = []

-- a place that may be missing, with the frames that enclose it
abbrev pub enclosing_any : PlainWorld → Option AdPlace → List Candidate
enclosing_any w None = []
enclosing_any w (Some p) = enclosing w p

-- the other side with the frames that enclose it
abbrev pub targets : PlainWorld → ℕ → List Candidate
targets w k = enclosing_any w (target w k)

-- where a name is looked for, from an expression that stands in the frame at a place
abbrev pub candidates : PlainWorld → AdPlace → Scope → List Candidate
candidates w p Scope.Bare = enclosing w p ++ (labels w p.ad ++ targets w p.ad)
candidates w p Scope.My = in_frame (record { ad = p.ad; frame = 0 }) ∷ []
candidates w p Scope.Target = targets w p.ad

-- what a name finds
abbrev pub find : PlainWorld → AdPlace → Scope → List ℕ → Found
find w p scope name = first_found w name (candidates w p scope)

-- an attribute that was found has an expression
abbrev pub IsThere : PlainWorld → Found → Type 0
IsThere w (Found.Attr s) = IsSome (expr_of w s)
IsThere w found = Unit {0}
