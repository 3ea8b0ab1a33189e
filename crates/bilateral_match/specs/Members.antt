-- The members for a single job: the resources that it may be given. The best of them.
use Rattle.std.specs.Prelude.{◌≡◌, ℕ, ℤ, suc, Bool, false, not, ◌&&◌, List, [], ◌∷◌, Option, None, Some, option_map, All, Contains}
use Rattle.std.specs.Prelude.{if◌then◌else◌}
use Rattle.std.specs.List.{cons_option}
use Rattle.std.specs.Ordering.{int_cmp, is_lt, nat_cmp, ordering_then}
use Rattle.std.specs.declared.cmp.Ordering.{Ordering}
use Rattle.ad_tree.specs.Frames.{Frame}
use Rattle.ad_store.specs.Stock.{Advert, Stock, is_live}
use Rattle.dock_match.specs.Docks.{docks, pair_world, rank_of_dock}
use Rattle.dock_match.specs.Pool.{Pool, regard_in, slot_at}
use Rattle.dock_match.specs.Preemption.{is_yielded, order_of, preemption_of}
use Rattle.bilateral_match.specs.declared.member.Member.{Member}

-- ---- members

-- the rank that a resource gives the job
abbrev pub regard : ℕ → List Frame → List Frame → ℤ
regard moment request ad = regard_in (pair_world moment request ad)

-- the resource at a place is yielded to the job, whose user has this number
abbrev pub is_won : Pool → List Frame → ℕ → ℕ → List Frame → Bool
is_won pool request number place ad = is_yielded number (regard pool.moment request ad) (pool.held_in place)

-- a member is a live resource that isn't offered, that docks with the job, and that the job wins
abbrev pub is_member : Pool → List Frame → ℕ → ℕ → Advert → Bool
is_member pool request number place advert =
    is_live pool.moment advert
    && (not (pool.is_offered place) && (docks pool.moment request advert.ad && is_won pool request number place advert.ad))

-- a resource as members are compared
abbrev pub as_member : Pool → List Frame → ℕ → Advert → Member
as_member pool request place advert = record {
  rank = rank_of_dock pool.moment request advert.ad;
  preemption = preemption_of (regard pool.moment request advert.ad) (pool.held_in place);
  regard = regard pool.moment request advert.ad;
  place = place;
}

-- the resource at a place, if it is a member
abbrev pub member_with : Pool → List Frame → ℕ → ℕ → Advert → Option Member
member_with pool request number place advert = if is_member pool request number place advert then Some (as_member pool request place advert) else None

-- the members among the ads, which stand from place k on
abbrev pub members_from : Pool → List Frame → ℕ → ℕ → List Advert → List Member
members_from pool request number k [] = []
members_from pool request number k (advert ∷ ads) = cons_option (member_with pool request number k advert) (members_from pool request number (suc k) ads)

-- the members among all ads of the pool, in their order there
abbrev pub members : Pool → List Frame → ℕ → List Member
members pool request number = members_from pool request number 0 pool.ads

-- ---- their order

-- by the job's rank falling, then by how the resource is taken, then by the resource's rank of the job falling, then by place rising
abbrev pub member_order : Member → Member → Ordering
member_order a b =
    ordering_then
    (ordering_then (ordering_then (int_cmp b.rank a.rank) (nat_cmp (order_of a.preemption) (order_of b.preemption))) (int_cmp b.regard a.regard))
    (nat_cmp a.place b.place)

-- one of these, before which no other comes
pub record IsFirst (ms : List Member) (m : Member) : Type 0 where
  pub among : Contains ms m
  pub none_before : All (λ other. is_lt (member_order other m) ≡ false) ms

-- the first of these, or none where there are none
abbrev pub IsBest : List Member → Option Member → Type 0
IsBest ms None = ms ≡ []
IsBest ms (Some m) = IsFirst ms m

-- ---- the one that is so

-- the earlier of two, where there are two
abbrev pub earlier : Option Member → Option Member → Option Member
earlier None b = b
earlier (Some a) None = Some a
earlier (Some a) (Some b) = if is_lt (member_order b a) then Some b else Some a

-- the member before which no other comes, or none where there are none
abbrev pub first_of : List Member → Option Member
first_of [] = None
first_of (m ∷ ms) = earlier (Some m) (first_of ms)

-- the member for a job of a user with this number before which no other comes
abbrev pub best : Pool → List Frame → ℕ → Option Member
best pool request number = first_of (members pool request number)

-- the slot of that member
abbrev pub best_slot : Stock → Pool → List Frame → ℕ → Option ℕ
best_slot stock pool request number = option_map (λ m. slot_at stock m.place) (best pool request number)
