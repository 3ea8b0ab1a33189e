-- Hits with the slots of their ads, and the rows of the ads.
use Rattle.std.proofs.Common.{◌≡◌, ℕ, ℤ, zero, suc, ◌+◌, ◌<◌, ◌≤◌, List, [], ◌∷◌, ◌++◌, length, map, take, All, Contains, Option, None, Some, option_map}
use Rattle.std.proofs.Common.{slice_get, refl, sym, ◌∙◌, ap, subst, arith}
use Rattle.std.specs.List.{cons_option}
use Rattle.std.proofs.lemmas.List.{length-map, take_all}
use Rattle.std.proofs.lemmas.List.Elements.{All-cons, All-head, All-nil, All-tail, Contains-get_or}
use Rattle.std.proofs.lemmas.List.Sorted.{All-permutation}
use Rattle.ad_store.specs.Stock.{Advert}
use Rattle.ad_tree.specs.Frames.{Frame}
use Rattle.dock_match.specs.Docks.{ranked}
use Rattle.bilateral_match.specs.Answers.{AreAnswers, hit_of, matches_from}
use Rattle.bilateral_match.specs.declared.hit.Hit.{Hit}
use Rattle.bilateral_match.specs.declared.hit.Match.{Match}
use Rattle.pool_replies.specs.declared.rows.HitRow.{HitRow}
use Rattle.pool_commands.specs.Queries.{AreHits, hit_row}

-- ---- the places of answers

matches-within : (moment : ℕ) (request : List Frame) (k n : ℕ) (ads : List Advert) → k + length ads ≤ n
    → All (λ m. m.place < n) (matches_from moment request k ads)
matches-within moment request k n [] fits = All-nil (λ m. m.place < n)
matches-within moment request k n (a ∷ ads) fits = by (matches-within moment request (suc k) n ads (omega (arith, fits))) (ranked moment request a.ad)
  where
    by : All (λ m. m.place < n) (matches_from moment request (suc k) ads) → (o : Option ℤ)
        → All (λ m. m.place < n) (cons_option (option_map (λ rank. record { place = k; rank = rank }) o) (matches_from moment request (suc k) ads))
    by rest None = rest
    by rest (Some rank) = All-cons (λ m. m.place < n) (record { place = k; rank = rank }) (matches_from moment request (suc k) ads) (omega (arith, fits)) rest

-- each answer is at a place of the ads
pub answers-within : (moment : ℕ) (request : List Frame) (ads : List Advert) (found : List Match) (n : ℕ) → AreAnswers moment request ads found → length ads ≤ n
    → All (λ m. m.place < n) found
answers-within moment request ads found n are fits =
    All-permutation (λ m. m.place < n) (matches_from moment request 0 ads) found are.all (matches-within moment request 0 n ads (omega (arith, fits)))

-- the slots of hits are held
pub hits-held : (slots : List ℕ) (matches : List Match) → All (λ m. m.place < length slots) matches
    → All (λ hit. Contains slots hit.slot) (map (hit_of slots) matches)
hits-held slots [] within = All-nil (λ hit. Contains slots hit.slot)
hits-held slots (m ∷ matches) within =
    All-cons (λ hit. Contains slots hit.slot) (hit_of slots m) (map (hit_of slots) matches)
    (Contains-get_or slots m.place 0 (All-head (λ m. m.place < length slots) m matches within))
    (hits-held slots matches (All-tail (λ m. m.place < length slots) m matches within))

-- ---- the rows

found : (slots : List ℕ) (matches : List Match) (i : ℕ) (hit : Hit) → slice_get (map (hit_of slots) matches) i ≡ Some hit
    → (m : Match) × (slice_get matches i ≡ Some m) × (hit ≡ hit_of slots m)
found slots [] i hit at = absurd (cc)
found slots (m ∷ matches) zero hit at = (m, refl, cc)
found slots (m ∷ matches) (suc i) hit at = found slots matches i hit at

-- what holds of all elements holds at each place
pub all_at : {A : Type 0} (P : A → Type 0) (xs : List A) (i : ℕ) (x : A) → All P xs → slice_get xs i ≡ Some x → P x
all_at P [] i x all at = absurd (cc)
all_at P (y ∷ xs) zero x all at = let same : y ≡ x = cc in subst P same (All-head P y xs all)
all_at P (y ∷ xs) (suc i) x all at = all_at P xs i x (All-tail P y xs all) at

rows_more : (ads : List Advert) (matches : List Match) (i : ℕ) (m : Match) (row : HitRow) → slice_get matches i ≡ Some m → row ≡ hit_row ads m
    → map (hit_row ads) (take i matches) ++ row ∷ [] ≡ map (hit_row ads) (take (suc i) matches)
rows_more ads [] i m row at is = absurd (cc)
rows_more ads (x ∷ matches) zero m row at is = let same : x ≡ m = cc in ap (λ (r : HitRow). r ∷ []) (is ∙ ap (hit_row ads) (sym same))
rows_more ads (x ∷ matches) (suc i) m row at is = ap (λ (rows : List HitRow). hit_row ads x ∷ rows) (rows_more ads matches i m row at is)

-- the rows of the first hits and the next
pub rows_next : (ads : List Advert) (slots : List ℕ) (matches : List Match) (hits : List Hit) (i : ℕ) (hit : Hit) (row : HitRow) → AreHits slots matches hits
    → slice_get hits i ≡ Some hit → ((m : Match) → m.place < length slots → hit ≡ hit_of slots m → row ≡ hit_row ads m)
    → map (hit_row ads) (take i matches) ++ row ∷ [] ≡ map (hit_row ads) (take (suc i) matches)
rows_next ads slots matches hits i hit row are at is =
    let m = found slots matches i hit (ap (λ (l : List Hit). slice_get l i) (sym are.1) ∙ at) in
    rows_more ads matches i m.0 row m.1 (is m.0 (all_at (λ m. m.place < length slots) matches i m.0 are.0 m.1) m.2)

-- the rows of all hits
pub rows_all : (ads : List Advert) (slots : List ℕ) (matches : List Match) (hits : List Hit) (i : ℕ) → AreHits slots matches hits → length hits ≤ i
    → map (hit_row ads) (take i matches) ≡ map (hit_row ads) matches
rows_all ads slots matches hits i are all =
    ap (map (hit_row ads)) (take_all i matches (omega (arith, all, ap length are.1, length-map matches (hit_of slots))))
