-- What there is room for.
use Rattle.std.proofs.Common.{◌≡◌, ℕ, ◌+◌, ◌≤◌, ◌<◌, Bool, true, false, not, ◌&&◌, cond, ltb, leb, List, length, None, Some, sym, ◌∙◌, ap, arith}
use Rattle.std.proofs.lemmas.Bool.Decides.{nat_tests}
use Rattle.ad_store.specs.declared.answers.PutFault.{PutFault}
use Rattle.ad_store.specs.Stock.{Advert, has, lack, text_held, without}
use Rattle.ad_store.proofs.HeldLemmas.{without-absent}

-- the name is held, or there is a place for it
abbrev pub needs_place : List ℕ → List Advert → Bool
needs_place name ads = not (has name ads) && leb 10000 (length ads)

pub lack-full : (name : List ℕ) (size : ℕ) (ads : List Advert) → has name ads ≡ false → 10000 ≤ length ads → lack name size ads ≡ Some PutFault.Full
lack-full name size ads new full =
    let tested : leb 10000 (length ads) ≡ true = grind (arith, nat_tests) in
    ap (λ b. cond b (Some PutFault.Full) (cond (ltb 33554432 (text_held (without name ads) + size)) (Some PutFault.FullText) None))
    (ap (λ b. not b && leb 10000 (length ads)) new ∙ tested)

with_place : (name : List ℕ) (size : ℕ) (ads : List Advert) → needs_place name ads ≡ false
    → lack name size ads ≡ cond (ltb 33554432 (text_held (without name ads) + size)) (Some PutFault.FullText) None
with_place name size ads place =
    ap (λ b. cond b (Some PutFault.Full) (cond (ltb 33554432 (text_held (without name ads) + size)) (Some PutFault.FullText) None)) place

pub lack-text : (name : List ℕ) (size : ℕ) (ads : List Advert) → needs_place name ads ≡ false → 33554432 < text_held (without name ads) + size
    → lack name size ads ≡ Some PutFault.FullText
lack-text name size ads place heavy =
    let tested : ltb 33554432 (text_held (without name ads) + size) ≡ true = grind (arith, nat_tests) in
    with_place name size ads place ∙ ap (λ b. cond b (Some PutFault.FullText) None) tested

pub lack-none : (name : List ℕ) (size : ℕ) (ads : List Advert) → needs_place name ads ≡ false → text_held (without name ads) + size ≤ 33554432
    → lack name size ads ≡ None
lack-none name size ads place light =
    let tested : ltb 33554432 (text_held (without name ads) + size) ≡ false = grind (arith, nat_tests) in
    with_place name size ads place ∙ ap (λ b. cond b (Some PutFault.FullText) None) tested

pub place_held : (name : List ℕ) (ads : List Advert) → has name ads ≡ true → needs_place name ads ≡ false
place_held name ads held = ap (λ b. not b && leb 10000 (length ads)) held

pub place_left : (name : List ℕ) (ads : List Advert) → has name ads ≡ false → length ads < 10000 → needs_place name ads ≡ false
place_left name ads new few =
    let tested : leb 10000 (length ads) ≡ false = grind (arith, nat_tests) in
    ap (λ b. not b && leb 10000 (length ads)) new ∙ tested

-- what there is room for under a new name, as the numbers that a store keeps tell it
module _ (ads : List Advert) (name : List ℕ) (size text count : ℕ) (counted : text ≡ text_held ads) (many : count ≡ length ads)
    (new : has name ads ≡ false) where
  others : text_held (without name ads) ≡ text
  others = ap text_held (without-absent name ads new) ∙ sym counted

  pub new-full : 10000 ≤ count → lack name size ads ≡ Some PutFault.Full
  new-full full = lack-full name size ads new (omega (arith, many))

  pub new-text : count < 10000 → 33554432 < text + size → lack name size ads ≡ Some PutFault.FullText
  new-text few heavy = lack-text name size ads (place_left name ads new (omega (arith, many))) (omega (arith, others))

  pub new-none : count < 10000 → text + size ≤ 33554432 → lack name size ads ≡ None
  new-none few light = lack-none name size ads (place_left name ads new (omega (arith, many))) (omega (arith, others))
