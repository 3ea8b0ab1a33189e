-- Ads beside their slots, and ads that leave.
use Rattle.std.proofs.Common.{◌≡◌, ℕ, zero, suc, List, [], ◌∷◌, ◌++◌, map, take, Option, None, Some, slice_get, option_map, refl, sym, ◌∙◌, ap}
use Rattle.pool_replies.specs.declared.rows.AdRow.{AdRow}
use Rattle.ad_tree.specs.Frames.{Frame}
use Rattle.ad_store.specs.Stock.{Advert}
use Rattle.pool_books.specs.Queue.{claimed_by, offered_to}
use Rattle.pool_books.specs.State.{QueuedJob}
use Rattle.pool_commands.specs.Ads.{ad_row}

-- the rows of the first ads and the next
pub rows_more : (jobs : List QueuedJob) (ads : List Advert) (i : ℕ) (row : AdRow) → option_map (ad_row jobs) (slice_get ads i) ≡ Some row
    → map (ad_row jobs) (take i ads) ++ row ∷ [] ≡ map (ad_row jobs) (take (suc i) ads)
rows_more jobs [] i row is = absurd (cc)
rows_more jobs (x ∷ ads) zero row is = let same : ad_row jobs x ≡ row = cc in ap (λ (r : AdRow). r ∷ []) (sym same)
rows_more jobs (x ∷ ads) (suc i) row is = ap (λ (rows : List AdRow). ad_row jobs x ∷ rows) (rows_more jobs ads i row is)

-- the row of an ad, from what was asked of it
pub row-is : (jobs : List QueuedJob) (ads : List Advert) (i : ℕ) (name : List ℕ) (born lifetime : ℕ) (claimed offered : Option (List ℕ))
    → option_map (λ a. a.name) (slice_get ads i) ≡ Some name → option_map (λ a. a.born) (slice_get ads i) ≡ Some born
    → option_map (λ a. a.lifetime) (slice_get ads i) ≡ Some lifetime
    → ((a : Advert) → slice_get ads i ≡ Some a → claimed ≡ option_map (λ job. job.name) (claimed_by a.name jobs))
    → ((a : Advert) → slice_get ads i ≡ Some a → offered ≡ option_map (λ job. job.name) (offered_to a.name jobs))
    → option_map (ad_row jobs) (slice_get ads i) ≡ Some (record { name = name; born = born; lifetime = lifetime; claimed = claimed; offered = offered })
row-is jobs ads i name born lifetime claimed offered = by (slice_get ads i)
  where
    by : (o : Option Advert) → option_map (λ a. a.name) o ≡ Some name → option_map (λ a. a.born) o ≡ Some born → option_map (λ a. a.lifetime) o ≡ Some lifetime
        → ((a : Advert) → o ≡ Some a → claimed ≡ option_map (λ job. job.name) (claimed_by a.name jobs))
        → ((a : Advert) → o ≡ Some a → offered ≡ option_map (λ job. job.name) (offered_to a.name jobs))
        → option_map (ad_row jobs) o ≡ Some (record { name = name; born = born; lifetime = lifetime; claimed = claimed; offered = offered })
    by None called birth life claims offers = absurd (cc)
    by (Some a) called birth life claims offers =
        let n : a.name ≡ name = cc in
        let b : a.born ≡ born = cc in
        let l : a.lifetime ≡ lifetime = cc in
        λ k. Some (record { name = n k; born = b k; lifetime = l k; claimed = (sym (claims a refl)) k; offered = (sym (offers a refl)) k })

-- the frames that an ad has
pub own_frames : (ads : List Advert) (i : ℕ) (a : Advert) (frames : List Frame) → slice_get ads i ≡ Some a
    → option_map (λ x. x.ad) (slice_get ads i) ≡ Some frames → a.ad ≡ frames
own_frames ads i a frames at is = let both : Some a.ad ≡ Some frames = sym (ap (option_map (λ (x : Advert). x.ad)) at) ∙ is in cc
