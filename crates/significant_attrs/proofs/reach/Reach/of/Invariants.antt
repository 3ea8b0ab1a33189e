use Rattle.std.proofs.Common.{◌≡◌, ℕ, ◌||◌, List, drop, map}
use Rattle.ad_tree.specs.Names.{has_name}
use Rattle.significant_attrs.proofs.reach.Reach.of.Given as goal

-- the names so far, and those that are left
abbrev pub invariant-loop-i : goal.invariant-loop-i
invariant-loop-i l = (x : List ℕ) → (has_name x (map (λ key. key.items) l.set.names.keys) || has_name x (drop l.i l.names)) ≡ has_name x l.names
