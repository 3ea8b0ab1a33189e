-- The jobs of a state as ads that are no longer live leave one after another.
use Rattle.std.proofs.Common.{◌≡◌, ℕ, zero, suc, Bool, true, false, not, ◌&&◌, ◌||◌, cond, List, [], ◌∷◌, filter, find, length, slice_get, Option, Some}
use Rattle.std.proofs.Common.{bytes_eq, refl, sym, ◌∙◌, ap, arith}
use Rattle.std.specs.List.{list_any}
use Rattle.std.specs.Cmp.Lexicographic.{bytes_decides}
use Rattle.ad_store.specs.Stock.{Advert, is_live, is_named, slot_beside, slots_beside, slots_without, without}
use Rattle.pool_books.specs.Expiry.{has_expired}
use Rattle.pool_books.specs.Queue.{names_of, without_resources}
use Rattle.pool_books.specs.State.{QueuedJob, idle}
use Rattle.pool_books.proofs.AdLemmas.{AreApart, apart_behind, live-le}
use Rattle.pool_books.proofs.NameLemmas.{same_truth}

-- ---- names that leave

abbrev freed_by : (List ℕ → Bool) → QueuedJob → QueuedJob
freed_by leaves job = cond (list_any leaves (names_of job.standing)) (record job { standing = idle }) job

any-either : (p q : List ℕ → Bool) (names : List (List ℕ)) → list_any (λ n. q n || p n) names ≡ (list_any q names || list_any p names)
any-either p q [] = refl
any-either p q (n ∷ names) = ap (λ b. (q n || p n) || b) (any-either p q names) ∙ by (q n) (p n) (list_any q names) (list_any p names)
  where
    by : (a b c d : Bool) → ((a || b) || (c || d)) ≡ ((a || c) || (b || d))
    by true b c d = refl
    by false true true d = refl
    by false true false d = refl
    by false false c d = refl

-- those that leave first, and then others
pub left-twice : (p q : List ℕ → Bool) (jobs : List QueuedJob) → without_resources p (without_resources q jobs) ≡ without_resources (λ n. q n || p n) jobs
left-twice p q [] = refl
left-twice p q (job ∷ jobs) =
    ap (λ j. j ∷ without_resources p (without_resources q jobs)) one ∙ ap (λ l. freed_by (λ n. q n || p n) job ∷ l) (left-twice p q jobs)
  where
    by : (a b : Bool) → list_any p (names_of job.standing) ≡ b
        → freed_by p (cond a (record job { standing = idle }) job) ≡ cond (a || b) (record job { standing = idle }) job
    by true b is = refl
    by false b is = ap (λ c. cond c (record job { standing = idle }) job) is

    one : freed_by p (freed_by q job) ≡ freed_by (λ n. q n || p n) job
    one =
        by (list_any q (names_of job.standing)) (list_any p (names_of job.standing)) refl
        ∙ sym (ap (λ b. cond b (record job { standing = idle }) job) (any-either p q (names_of job.standing)))

any-same : (p q : List ℕ → Bool) (names : List (List ℕ)) → ((n : List ℕ) → p n ≡ q n) → list_any p names ≡ list_any q names
any-same p q [] same = refl
any-same p q (n ∷ names) same = ap (λ b. b || list_any p names) (same n) ∙ ap (λ b. q n || b) (any-same p q names same)

pub left-same : (p q : List ℕ → Bool) (jobs : List QueuedJob) → ((n : List ℕ) → p n ≡ q n) → without_resources p jobs ≡ without_resources q jobs
left-same p q [] same = refl
left-same p q (job ∷ jobs) same =
    ap (λ b. cond b (record job { standing = idle }) job ∷ without_resources p jobs) (any-same p q (names_of job.standing) same)
    ∙ ap (λ l. freed_by q job ∷ l) (left-same p q jobs same)

any-none : (p : List ℕ → Bool) (names : List (List ℕ)) → ((n : List ℕ) → p n ≡ false) → list_any p names ≡ false
any-none p [] none = refl
any-none p (n ∷ names) none = ap (λ b. b || list_any p names) (none n) ∙ any-none p names none

pub left-none : (p : List ℕ → Bool) (jobs : List QueuedJob) → ((n : List ℕ) → p n ≡ false) → without_resources p jobs ≡ jobs
left-none p [] none = refl
left-none p (job ∷ jobs) none =
    ap (λ b. cond b (record job { standing = idle }) job ∷ without_resources p jobs) (any-none p (names_of job.standing) none)
    ∙ ap (λ l. job ∷ l) (left-none p jobs none)

-- ---- ads that are no longer live

and_true : (b : Bool) → (b && true) ≡ b
and_true true = refl
and_true false = refl

same_either_way : (a b : List ℕ) → bytes_eq a b ≡ bytes_eq b a
same_either_way a b =
    same_truth _ _ (λ is. (bytes_decides b a).1 (sym ((bytes_decides a b).0 is))) (λ is. (bytes_decides a b).1 (sym ((bytes_decides b a).0 is)))

swapped : (a b c d : Bool) → d ≡ (b || c) → (a || d) ≡ (b || (a || c))
swapped true true c d is = refl
swapped true false c d is = refl
swapped false b c d is = is

-- an ad that isn't live is the one that leaves, or one of those behind it
pub expired-without : (now : ℕ) (name : List ℕ) (ads : List Advert) (i : ℕ) (a : Advert) → AreApart ads → slice_get ads i ≡ Some a → a.name ≡ name
    → is_live now a ≡ false → (n : List ℕ) → has_expired now ads n ≡ (bytes_eq name n || has_expired now (without name ads) n)
expired-without now name [] i a apart at is gone n = absurd (cc)
expired-without now name (x ∷ ads) i a apart at is gone n =
    by (is_named name x) refl i at (λ j there. expired-without now name ads j a (apart_behind x ads apart) there is gone n)
  where
    here : (j : ℕ) → slice_get (x ∷ ads) j ≡ Some a → is_named name x ≡ true → x ≡ a
    here j there named =
        let place : j ≡ 0 = apart j 0 a x there refl (is ∙ (bytes_decides name x.name).0 named) in
        let first : ◌≡◌ {A = Option Advert} (Some x) (Some a) = sym (ap (slice_get (x ∷ ads)) place) ∙ there in
        cc

    first_case : (j : ℕ) → slice_get (x ∷ ads) j ≡ Some a → is_named name x ≡ true
        → ((is_named n x && not (is_live now x)) || has_expired now ads n) ≡ (bytes_eq name n || has_expired now ads n)
    first_case j there named =
        let dead : is_live now x ≡ false = ap (is_live now) (here j there named) ∙ gone in
        let called : bytes_eq n x.name ≡ bytes_eq name n = same_either_way n x.name ∙ ap (λ m. bytes_eq m n) (sym ((bytes_decides name x.name).0 named)) in
        ap (λ b. (is_named n x && not b) || has_expired now ads n) dead
        ∙ ap (λ b. b || has_expired now ads n) (and_true (is_named n x) ∙ called)

    later_case : (j : ℕ) → slice_get (x ∷ ads) j ≡ Some a → is_named name x ≡ false
        → ((k : ℕ) → slice_get ads k ≡ Some a → has_expired now ads n ≡ (bytes_eq name n || has_expired now (without name ads) n))
        → ((is_named n x && not (is_live now x)) || has_expired now ads n)
        ≡ (bytes_eq name n || ((is_named n x && not (is_live now x)) || has_expired now (without name ads) n))
    later_case zero there other later =
        let same : x ≡ a = cc in
        let named : is_named name x ≡ true = (bytes_decides name x.name).1 (sym (ap (λ (y : Advert). y.name) same ∙ is)) in
        absurd (cc)
    later_case (suc k) there other later =
        swapped (is_named n x && not (is_live now x)) (bytes_eq name n) (has_expired now (without name ads) n) (has_expired now ads n) (later k there)

    by : (b : Bool) → is_named name x ≡ b → (j : ℕ) → slice_get (x ∷ ads) j ≡ Some a
        → ((k : ℕ) → slice_get ads k ≡ Some a → has_expired now ads n ≡ (bytes_eq name n || has_expired now (without name ads) n))
        → ((is_named n x && not (is_live now x)) || has_expired now ads n) ≡ (bytes_eq name n || has_expired now (cond b ads (x ∷ without name ads)) n)
    by true named j there later = first_case j there named
    by false named j there later = later_case j there named later

-- where all ads are live none has expired
pub expired-none : (now : ℕ) (ads : List Advert) → filter (is_live now) ads ≡ ads → (n : List ℕ) → has_expired now ads n ≡ false
expired-none now [] all n = refl
expired-none now (x ∷ ads) all n = by (is_live now x) refl all (λ rest. expired-none now ads rest n)
  where
    and_false : (b : Bool) → (b && false) ≡ false
    and_false true = refl
    and_false false = refl

    by : (b : Bool) → is_live now x ≡ b → cond b (x ∷ filter (is_live now) ads) (filter (is_live now) ads) ≡ x ∷ ads
        → (filter (is_live now) ads ≡ ads → has_expired now ads n ≡ false) → ((is_named n x && not (is_live now x)) || has_expired now ads n) ≡ false
    by true live whole later =
        let rest : filter (is_live now) ads ≡ ads = cc in
        ap (λ b. (is_named n x && not b) || has_expired now ads n) live ∙ ap (λ b. b || has_expired now ads n) (and_false (is_named n x)) ∙ later rest
    by false dead whole later = let long = live-le now ads in absurd (omega (arith, ap length whole, long))

-- ---- the slots of ads that are no longer live

abbrev pub ended : ℕ → Advert → Bool
ended now advert = not (is_live now advert)

-- the first of the slots beside the ads that pass
pub first-beside : (test : Advert → Bool) (ads : List Advert) (slots : List ℕ) (slot : ℕ) (more : List ℕ) → slots_beside test ads slots ≡ slot ∷ more
    → slot_beside test ads slots ≡ Some slot
first-beside test [] slots slot more is = absurd (cc)
first-beside test (x ∷ ads) [] slot more is = absurd (cc)
first-beside test (x ∷ ads) (s ∷ slots) slot more is = by (test x) is (first-beside test ads slots slot more)
  where
    by : (b : Bool) → cond b (s ∷ slots_beside test ads slots) (slots_beside test ads slots) ≡ slot ∷ more
        → (slots_beside test ads slots ≡ slot ∷ more → slot_beside test ads slots ≡ Some slot) → cond b (Some s) (slot_beside test ads slots) ≡ Some slot
    by true here later = cc
    by false here later = later here

-- the slots beside the ads that pass, once the ad of a name has left
abbrev left_beside : List ℕ → (Advert → Bool) → List Advert → List ℕ → List ℕ
left_beside name test ads slots = slots_beside test (without name ads) (slots_without name ads slots)

-- where the ad in the first of them leaves by its name, the others are left
pub others-beside : (test : Advert → Bool) (ads : List Advert) (slots : List ℕ) (slot : ℕ) (name : List ℕ) (i : ℕ) (a : Advert) → AreApart ads
    → slice_get ads i ≡ Some a → a.name ≡ name → test a ≡ true → slot_beside test ads slots ≡ Some slot → find test ads ≡ Some a
    → slots_beside test ads slots ≡ slot ∷ left_beside name test ads slots
others-beside test [] slots slot name i a apart at is passes first found = absurd (cc)
others-beside test (x ∷ ads) [] slot name i a apart at is passes first found = absurd (cc)
others-beside test (x ∷ ads) (s ∷ slots) slot name i a apart at is passes first found =
    by (test x) refl first found i at (λ j there f g. others-beside test ads slots slot name j a (apart_behind x ads apart) there is passes f g)
  where
    Later : Type 0
    Later = (j : ℕ) → slice_get ads j ≡ Some a → slot_beside test ads slots ≡ Some slot → find test ads ≡ Some a
        → slots_beside test ads slots ≡ slot ∷ left_beside name test ads slots

    goes : is_named name x ≡ true → left_beside name test (x ∷ ads) (s ∷ slots) ≡ slots_beside test ads slots
    goes named = ap (λ b. slots_beside test (cond b ads (x ∷ without name ads)) (cond b slots (s ∷ slots_without name ads slots))) named

    stays : test x ≡ false → is_named name x ≡ false
        → left_beside name test (x ∷ ads) (s ∷ slots) ≡ left_beside name test ads slots
    stays fails other =
        ap (λ b. slots_beside test (cond b ads (x ∷ without name ads)) (cond b slots (s ∷ slots_without name ads slots))) other
        ∙ ap (λ b. cond b (s ∷ left_beside name test ads slots) (left_beside name test ads slots)) fails

    other_name : (j : ℕ) → slice_get (x ∷ ads) (suc j) ≡ Some a → (b : Bool) → is_named name x ≡ b → b ≡ false
    other_name j there true named = let clash : suc j ≡ 0 = apart (suc j) 0 a x there refl (is ∙ (bytes_decides name x.name).0 named) in absurd (cc)
    other_name j there false named = refl

    by : (b : Bool) → test x ≡ b → cond b (Some s) (slot_beside test ads slots) ≡ Some slot → cond b (Some x) (find test ads) ≡ Some a → (j : ℕ)
        → slice_get (x ∷ ads) j ≡ Some a → Later
        → cond b (s ∷ slots_beside test ads slots) (slots_beside test ads slots) ≡ slot ∷ left_beside name test (x ∷ ads) (s ∷ slots)
    by true p f g j there later =
        let same : x ≡ a = cc in
        let here : s ≡ slot = cc in
        let named : is_named name x ≡ true = (bytes_decides name x.name).1 (sym is ∙ ap (λ (y : Advert). y.name) (sym same)) in
        λ k. here k ∷ (sym (goes named)) k
    by false p f g zero there later =
        let same : x ≡ a = cc in
        let clash : ◌≡◌ {A = Bool} true false = sym passes ∙ ap test (sym same) ∙ p in
        absurd (cc)
    by false p f g (suc j) there later = later j there f g ∙ ap (λ l. slot ∷ l) (sym (stays p (other_name j there (is_named name x) refl)))

-- where there are none all ads are live
pub none-beside : (now : ℕ) (ads : List Advert) (slots : List ℕ) → length ads ≡ length slots
    → slots_beside (ended now) ads slots ≡ [] → filter (is_live now) ads ≡ ads
none-beside now [] slots long none = refl
none-beside now (x ∷ ads) [] long none = absurd (omega (arith, long))
none-beside now (x ∷ ads) (s ∷ slots) long none = by (is_live now x) none (none-beside now ads slots (omega (arith, long)))
  where
    by : (b : Bool) → cond (not b) (s ∷ slots_beside (ended now) ads slots) (slots_beside (ended now) ads slots) ≡ []
        → (slots_beside (ended now) ads slots ≡ [] → filter (is_live now) ads ≡ ads)
        → cond b (x ∷ filter (is_live now) ads) (filter (is_live now) ads) ≡ x ∷ ads
    by true is later = ap (λ l. x ∷ l) (later is)
    by false is later = absurd (cc)
