-- Ads with no more attributes than an ad that was read may have.
use Rattle.std.specs.Prelude.{ℕ, ◌≤◌, List, length, sum_by}
use Rattle.ad_tree.specs.Frames.{Frame}

-- how many attributes all frames of an ad have
abbrev pub attribute_total : List Frame → ℕ
attribute_total fs = sum_by (λ f. length f.attributes) fs

-- they are 1,024 at most
abbrev pub IsSmall : List Frame → Type 0
IsSmall fs = attribute_total fs ≤ 1024
