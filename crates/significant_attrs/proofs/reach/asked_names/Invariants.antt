use Rattle.std.proofs.Common.{◌≡◌, ◌≤◌, ◌+◌, ◌++◌, drop}
use Rattle.std.specs.List.{flat_map}
use Rattle.ad_store.specs.Store.{stock_of}
use Rattle.significant_attrs.specs.Names.{asked_by}
use Rattle.significant_attrs.specs.Reach.{first_names}
use Rattle.significant_attrs.specs.Shown.{ads_in}
use Rattle.significant_attrs.proofs.reach.asked_names.Given as goal

-- the names so far, and those of the ads that are left; each ad was looked at once
abbrev pub invariant-loop-i : goal.invariant-loop-i
invariant-loop-i g l = record {
  names : l.names ++ flat_map asked_by (drop l.i (ads_in (stock_of l.store).ads)) ≡ first_names (ads_in (stock_of l.store).ads);
  looks : l.touch ≤ l.initial.touch + l.i;
}
