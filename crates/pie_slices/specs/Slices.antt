-- How the resources of a spin are divided among users by their priorities.
use Rattle.std.specs.Prelude.{ℕ, ◌*◌, ◌/◌, ◌^◌, max, List, map, sum}

-- the weight of a user: the better priorities are the lower numbers
abbrev pub weight_of : ℕ → ℕ
weight_of priority = 10 ^ 12 / priority

-- a user's share of what is free, by the weights of all, and at least one
abbrev pub slice_of : ℕ → ℕ → ℕ → ℕ
slice_of free total weight = max 1 (free * weight / total)

-- the slices of all users, in their order
abbrev pub slices_of : ℕ → List ℕ → List ℕ
slices_of free weights = map (slice_of free (sum weights)) weights
