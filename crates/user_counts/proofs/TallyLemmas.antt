-- The numbers of jobs under keys, as users and jobs are added one by one.
use Rattle.std.proofs.Common.{◌≡◌, ◌+◌, ◌<◌, ◌≤◌, ℕ, zero, suc, Bool, true, false, ◌&&◌, cond, List, [], ◌∷◌, ◌++◌, All}
use Rattle.std.proofs.Common.{bytes_eq, count_by, fold, length, map, take, Option, None, Some, option_map, slice_get, unwrap_or, Less, Equal, Greater, refl}
use Rattle.std.proofs.Common.{sym, ap, ◌∙◌, subst, arith, add-one, append_assoc}
use Rattle.std.specs.declared.cmp.Ordering.{Ordering}
use Rattle.std.specs.BTreeMap.{BTreeMap, Updates, get, insert_entry, is_at}
use Rattle.std.specs.BTreeSet.{insert_key}
use Rattle.std.specs.Cmp.{IsTotalOrder}
use Rattle.std.specs.Cmp.Lexicographic.{slice_cmp}
use Rattle.std.specs.Map.{keys_of, lookup}
use Rattle.std.specs.Ordering.{is_eq, match_ordering, nat_cmp, ordering_reverse, ordering_then}
use Rattle.std.proofs.lemmas.Cmp.{nat_cmp_total, nat_list_cmp_total, on_total, then_total}
use Rattle.std.proofs.lemmas.List.{append-nil, length-map, take_all}
use Rattle.std.proofs.lemmas.List.Elements.{All-head, All-nil, All-tail}
use Rattle.std.proofs.lemmas.List.Sums.{count_by-le-length, sum_by_push}
use Rattle.std.proofs.lemmas.Map.Lookups.{exact_bytes}
use Rattle.std.proofs.lemmas.Map.Views.{All-keys-insert_entry}
use Rattle.std.proofs.lemmas.Option.{none-some, same_Some}
use Rattle.std.proofs.lemmas.Slice.Eq.{bytes_eq-Decides}
use Rattle.claim_table.specs.Jobs.{state_of}
use Rattle.claim_table.specs.Priorities.{Setting, priority_of, user_order}
use Rattle.claim_table.specs.declared.answers.JobState.{JobState}
use Rattle.claim_table.specs.declared.job.Job.{Job}
use Rattle.claim_table.specs.declared.job.Stage.{Stage}
use Rattle.pool_replies.specs.declared.rows.JobCounts.{JobCounts}
use Rattle.pool_replies.specs.declared.rows.UserRow.{UserRow}
use Rattle.user_counts.specs.Shown.{IsFew, IsTally, Key, key_order, no_jobs, one_more, row_of}
use Rattle.user_counts.specs.Users.{UserJob, count_of, counts_of, in_order, is_claimed, is_idle, is_matched, set_names, user_job, user_names, user_row}

-- ---- lists

fold-last : {A B : Type 0} (f : B → A → B) (b : B) (xs : List A) (x : A) → fold f b (xs ++ x ∷ []) ≡ f (fold f b xs) x
fold-last f b [] x = refl
fold-last f b (y ∷ xs) x = fold-last f (f b y) xs x

module _ {A B : Type 0} (f : A → B) where
  next-by : (xs : List A) (i : ℕ) (y : B) → option_map f (slice_get xs i) ≡ Some y → take (suc i) (map f xs) ≡ take i (map f xs) ++ y ∷ []
  next-by [] i y at = absurd (none-some y at)
  next-by (x ∷ xs) zero y at = ap (λ z. z ∷ []) (same_Some (f x) y at)
  next-by (x ∷ xs) (suc i) y at = ap (λ ys. f x ∷ ys) (next-by xs i y at)

  take-next : (xs : List A) (i : ℕ) (y : B) → option_map f (slice_get xs i) ≡ Some y → take (i + 1) (map f xs) ≡ take i (map f xs) ++ y ∷ []
  take-next xs i y at = ap (λ n. take n (map f xs)) (add-one i) ∙ next-by xs i y at

-- ---- keys

key_total : IsTotalOrder key_order
key_total = then_total (on_total (λ (k : Key). k.0) nat_cmp_total) (on_total (λ (k : Key). k.1.items) nat_list_cmp_total)

itself : (k : Key) → key_order k k ≡ Equal
itself k = by (key_order k k) (key_total.antisymm k k)
  where
    by : (r : Ordering) → r ≡ ordering_reverse r → r ≡ Equal
    by Equal e = refl
    by Less e = absurd (cc)
    by Greater e = absurd (cc)

same-name : (a b : Key) → is_eq (key_order a b) ≡ true → a.1.items ≡ b.1.items
same-name a b is = exact_bytes a.1.items b.1.items (by (nat_cmp a.0 b.0) (slice_cmp nat_cmp a.1.items b.1.items) is)
  where
    equal : (s : Ordering) → is_eq s ≡ true → s ≡ Equal
    equal Equal e = refl
    equal Less e = absurd (cc)
    equal Greater e = absurd (cc)

    by : (r s : Ordering) → is_eq (ordering_then r s) ≡ true → s ≡ Equal
    by Equal s e = equal s e
    by Less s e = absurd (cc)
    by Greater s e = absurd (cc)

module _ (settings : List Setting) where
  -- the key of a user
  abbrev Numbered : Key → Type 0
  Numbered key = key.0 ≡ priority_of key.1.items settings

  abbrev order : List ℕ → List ℕ → Ordering
  order = user_order (λ user. priority_of user settings)

  other-name : (a b : Key) → Numbered a → Numbered b → is_eq (key_order a b) ≡ false → bytes_eq b.1.items a.1.items ≡ false
  other-name a b of_a of_b apart = by (bytes_eq b.1.items a.1.items) refl
    where
      clash : b.1.items ≡ a.1.items → key_order a b ≡ Equal
      clash same =
          let number : a.0 ≡ b.0 = of_a ∙ ap (λ user. priority_of user settings) (sym same) ∙ sym of_b in
          ap (λ n. ordering_then (nat_cmp n b.0) (slice_cmp nat_cmp a.1.items b.1.items)) number
          ∙ ap (λ name. ordering_then (nat_cmp b.0 b.0) (slice_cmp nat_cmp name b.1.items)) (sym same)
          ∙ itself b

      by : (c : Bool) → bytes_eq b.1.items a.1.items ≡ c → bytes_eq b.1.items a.1.items ≡ false
      by false e = e
      by true e = let equal : true ≡ false = sym (ap is_eq (clash ((bytes_eq-Decides b.1.items a.1.items).0 e))) ∙ apart in absurd (cc)

  -- the names of the keys, with one more
  names-insert : (key : Key) (v : JobCounts) (es : List (Key × JobCounts)) → Numbered key → All Numbered (keys_of es)
      → map (λ (k : Key). k.1.items) (keys_of (insert_entry key_order es key v))
      ≡ insert_key order (map (λ (k : Key). k.1.items) (keys_of es)) key.1.items
  names-insert key v [] of_key each = refl
  names-insert key v (e ∷ es) of_key each =
      by (key_order key e.0) (names-insert key v es of_key (All-tail Numbered e.0 (keys_of es) each))
      ∙ ap (λ r. match_ordering r (key.1.items ∷ e.0.1.items ∷ names) (e.0.1.items ∷ names) (e.0.1.items ∷ insert_key order names key.1.items)) same
    where
      names : List (List ℕ)
      names = map (λ (k : Key). k.1.items) (keys_of es)

      same : key_order key e.0 ≡ order key.1.items e.0.1.items
      same =
          ap (λ n. ordering_then (nat_cmp n e.0.0) (slice_cmp nat_cmp key.1.items e.0.1.items)) of_key
          ∙ ap (λ n. ordering_then (nat_cmp (priority_of key.1.items settings) n) (slice_cmp nat_cmp key.1.items e.0.1.items))
          (All-head Numbered e.0 (keys_of es) each)

      by : (r : Ordering) → map (λ (k : Key). k.1.items) (keys_of (insert_entry key_order es key v)) ≡ insert_key order names key.1.items
          → map (λ (k : Key). k.1.items) (keys_of (match_ordering r ((key, v) ∷ e ∷ es) ((e.0, v) ∷ es) (e ∷ insert_entry key_order es key v)))
          ≡ match_ordering r (key.1.items ∷ e.0.1.items ∷ names) (e.0.1.items ∷ names) (e.0.1.items ∷ insert_key order names key.1.items)
      by Less rest = refl
      by Equal rest = refl
      by Greater rest = ap (λ l. e.0.1.items ∷ l) rest

-- ---- the numbers of jobs, with one more

same-counts : (a b c : ℕ) (counts : JobCounts) → a ≡ counts.idle → b ≡ counts.matched → c ≡ counts.claimed
    → ◌≡◌ {A = JobCounts} (record { idle = a; matched = b; claimed = c }) counts
same-counts a b c counts p q r = (λ i. record { idle = p i; matched = q i; claimed = r i })

count-last : (p : UserJob → Bool) (jobs : List UserJob) (job : UserJob) → count_by p (jobs ++ job ∷ []) ≡ count_by p jobs + cond (p job) 1 0
count-last p jobs job = sum_by_push (λ x. cond (p x) 1 0) jobs job

module _ (jobs : List UserJob) (job : UserJob) (user : List ℕ) where
  abbrev before : JobCounts
  before = counts_of jobs user

  last-of : (passes : JobState → Bool)
      → count_of passes (jobs ++ job ∷ []) user ≡ count_of passes jobs user + cond (bytes_eq user job.user && passes job.state) 1 0
  last-of passes = count-last (λ j. bytes_eq user j.user && passes j.state) jobs job

  -- of the user's own, and of another's
  own-more : bytes_eq user job.user ≡ true → counts_of (jobs ++ job ∷ []) user ≡ one_more job.state before
  own-more own = by job.state (grown is_idle) (grown is_matched) (grown is_claimed)
    where
      grown : (passes : JobState → Bool) → count_of passes (jobs ++ job ∷ []) user ≡ count_of passes jobs user + cond (passes job.state) 1 0
      grown passes = last-of passes ∙ ap (λ b. count_of passes jobs user + cond (b && passes job.state) 1 0) own

      by : (state : JobState) → count_of is_idle (jobs ++ job ∷ []) user ≡ count_of is_idle jobs user + cond (is_idle state) 1 0
          → count_of is_matched (jobs ++ job ∷ []) user ≡ count_of is_matched jobs user + cond (is_matched state) 1 0
          → count_of is_claimed (jobs ++ job ∷ []) user ≡ count_of is_claimed jobs user + cond (is_claimed state) 1 0
          → counts_of (jobs ++ job ∷ []) user ≡ one_more state before
      by JobState.Idle i m c = same-counts _ _ _ (one_more JobState.Idle before) i (omega (arith, m)) (omega (arith, c))
      by JobState.Matched i m c = same-counts _ _ _ (one_more JobState.Matched before) (omega (arith, i)) m (omega (arith, c))
      by JobState.Claimed i m c = same-counts _ _ _ (one_more JobState.Claimed before) (omega (arith, i)) (omega (arith, m)) c

  other-same : bytes_eq user job.user ≡ false → before ≡ counts_of (jobs ++ job ∷ []) user
  other-same other = sym (same-counts _ _ _ before (kept is_idle) (kept is_matched) (kept is_claimed))
    where
      kept : (passes : JobState → Bool) → count_of passes (jobs ++ job ∷ []) user ≡ count_of passes jobs user
      kept passes = let last = last-of passes ∙ ap (λ b. count_of passes jobs user + cond (b && passes job.state) 1 0) other in omega (arith, last)

-- no more jobs than there are
few-jobs : (jobs : List UserJob) (user : List ℕ) (counts : JobCounts) → counts ≡ counts_of jobs user → length jobs < 9223372036854775808
    → IsFew counts
few-jobs jobs user counts is short = subst IsFew (sym is) (below is_idle, below is_matched, below is_claimed)
  where
    below : (passes : JobState → Bool) → count_of passes jobs user < 9223372036854775808
    below passes = let most = count_by-le-length (λ (j : UserJob). bytes_eq user j.user && passes j.state) jobs in omega (arith, most, short)

-- ---- a tally

module _ (settings : List Setting) where
  tally-none : (tallies : BTreeMap Key JobCounts) → tallies.entries ≡ [] → IsTally settings [] [] tallies
  tally-none tallies empty = record {
    names = ap (λ (es : List (Key × JobCounts)). map (λ (k : Key). k.1.items) (keys_of es)) empty;
    numbers = subst (λ (es : List (Key × JobCounts)). All (Numbered settings) (keys_of es)) (sym empty) (All-nil (Numbered settings));
    counts = λ key of_key. ap (λ (es : List (Key × JobCounts)). unwrap_or (lookup (is_at (key_order key)) es) no_jobs) empty;
  }

  module _ (users : List (List ℕ)) (jobs jobs2 : List UserJob) (m n : BTreeMap Key JobCounts) (so_far : IsTally settings users jobs m) (key : Key)
      (w : JobCounts) (of_key : Numbered settings key) where
    -- a user more, whose number is another, while those of the others stay
    tally-next : n.entries ≡ insert_entry key_order m.entries key w → Updates key_order m n key (Some w) → w ≡ counts_of jobs2 key.1.items
        → ((user : List ℕ) → bytes_eq user key.1.items ≡ false → counts_of jobs user ≡ counts_of jobs2 user)
        → IsTally settings (users ++ key.1.items ∷ []) jobs2 n
    tally-next entries updates own others = record {
      names =
          ap (λ (es : List (Key × JobCounts)). map (λ (k : Key). k.1.items) (keys_of es)) entries
          ∙ names-insert settings key w m.entries of_key so_far.numbers
          ∙ ap (λ names. insert_key (order settings) names key.1.items) so_far.names
          ∙ sym (fold-last (insert_key (order settings)) [] users key.1.items);
      numbers =
          subst (λ (es : List (Key × JobCounts)). All (Numbered settings) (keys_of es)) (sym entries)
          (All-keys-insert_entry key_order key w (Numbered settings) m.entries so_far.numbers of_key);
      counts = λ q of_q. ap (λ o. unwrap_or o no_jobs) (updates.0 q) ∙ by q of_q (is_eq (key_order key q)) refl;
    }
      where
        by : (q : Key) → Numbered settings q → (b : Bool) → is_eq (key_order key q) ≡ b
            → unwrap_or (cond b (Some w) (get key_order m q)) no_jobs ≡ counts_of jobs2 q.1.items
        by q of_q true is = own ∙ ap (counts_of jobs2) (same-name key q is)
        by q of_q false is = so_far.counts q of_q ∙ others q.1.items (other-name settings key q of_key of_q is)

  -- the rows are those of the users in order
  module _ (users : List (List ℕ)) (jobs : List UserJob) (m : BTreeMap Key JobCounts) (tally : IsTally settings users jobs m) where
    abbrev Found : Key × JobCounts → Type 0
    Found e = get key_order m e.0 ≡ Some e.1

    rows-are : (es : List (Key × JobCounts)) → All Found es → All (Numbered settings) (keys_of es)
        → map row_of es ≡ map (user_row settings jobs) (map (λ (k : Key). k.1.items) (keys_of es))
    rows-are [] found each = refl
    rows-are (e ∷ es) found each =
        let number = All-head (Numbered settings) e.0 (keys_of es) each in
        let counts = sym (ap (λ o. unwrap_or o no_jobs) (All-head Found e es found)) ∙ tally.counts e.0 number in
        let rest = rows-are es (All-tail Found e es found) (All-tail (Numbered settings) e.0 (keys_of es) each) in
        (λ i. let row : UserRow = record { user = e.0.1.items; priority = number i; counts = counts i } in row ∷ rest i)

    pub rows-all : All Found m.entries → map row_of m.entries ≡ map (user_row settings jobs) (in_order settings users)
    rows-all found = rows-are m.entries found tally.numbers ∙ ap (map (user_row settings jobs)) tally.names

-- ---- the loops

keyed : (settings : List Setting) (key : Key) (user : List ℕ) → key.0 ≡ priority_of user settings → key.1.items ≡ user → Numbered settings key
keyed settings key user number name = number ∙ ap (λ u. priority_of u settings) (sym name)

module _ (settings : List Setting) where
  abbrev pub SetTo : ℕ → BTreeMap Key JobCounts → Type 0
  SetTo i m = IsTally settings (take i (set_names settings)) [] m

  pub set-none : (m : BTreeMap Key JobCounts) → m.entries ≡ [] → SetTo 0 m
  set-none m empty = tally-none settings m empty

  pub set-next : (i : ℕ) (m n : BTreeMap Key JobCounts) (key : Key) (user : List ℕ) → SetTo i m
      → option_map (λ (s : Setting). s.user) (slice_get settings i) ≡ Some user
      → key.0 ≡ priority_of user settings → key.1.items ≡ user → n.entries ≡ insert_entry key_order m.entries key no_jobs
      → Updates key_order m n key (Some no_jobs) → SetTo (i + 1) n
  set-next i m n key user so_far at number name entries updates =
      subst (λ (users : List (List ℕ)). IsTally settings users [] n)
      (sym (take-next (λ (s : Setting). s.user) settings i key.1.items (at ∙ ap (λ u. Some u) (sym name))))
      (tally-next settings (take i (set_names settings)) [] [] m n so_far key no_jobs (keyed settings key user number name) entries updates refl
      (λ other apart. refl))

  pub set-all : (i : ℕ) (m : BTreeMap Key JobCounts) → SetTo i m → length settings ≤ i → IsTally settings (set_names settings) [] m
  set-all i m so_far low =
      subst (λ (users : List (List ℕ)). IsTally settings users [] m)
      (take_all i (set_names settings) (omega (arith, low, length-map settings (λ (s : Setting). s.user)))) so_far

names-last : (jobs : List UserJob) (job : UserJob)
    → map (λ (j : UserJob). j.user) (jobs ++ job ∷ []) ≡ map (λ (j : UserJob). j.user) jobs ++ job.user ∷ []
names-last [] job = refl
names-last (j ∷ jobs) job = ap (λ l. j.user ∷ l) (names-last jobs job)

read-of : (o : Option Job) (user : List ℕ) (standing : Stage) (state : JobState) → option_map (λ (job : Job). job.user) o ≡ Some user
    → option_map (λ (job : Job). job.standing) o ≡ Some standing → state ≡ state_of standing
    → option_map user_job o ≡ Some (record { user = user; state = state })
read-of None user standing state owner stands is = absurd (none-some user owner)
read-of (Some job) user standing state owner stands is =
    let one = same_Some job.user user owner in
    let two = ap state_of (same_Some job.standing standing stands) ∙ sym is in
    (λ k. let job : UserJob = record { user = one k; state = two k } in Some job)

length-take-most : {A : Type 0} (n : ℕ) (xs : List A) → length (take n xs) ≤ n
length-take-most zero xs = omega arith
length-take-most (suc n) [] = omega arith
length-take-most (suc n) (x ∷ xs) = let rest = length-take-most n xs in omega (arith, rest)

-- a job, under its key's name
abbrev keyed_job : Key → JobState → UserJob
keyed_job key state = record { user = key.1.items; state = state }

module _ (settings : List Setting) (jobs : List Job) where
  abbrev pub all_jobs : List UserJob
  all_jobs = map user_job jobs

  abbrev pub CountedTo : ℕ → BTreeMap Key JobCounts → Type 0
  CountedTo i m = IsTally settings (user_names settings (take i all_jobs)) (take i all_jobs) m

  pub counted-none : (m : BTreeMap Key JobCounts) → IsTally settings (set_names settings) [] m → CountedTo 0 m
  counted-none m tally = subst (λ (users : List (List ℕ)). IsTally settings users [] m) (sym (append-nil (set_names settings))) tally

  pub counted-few : (i : ℕ) (m : BTreeMap Key JobCounts) (key : Key) (user : List ℕ) → CountedTo i m → key.0 ≡ priority_of user settings
      → key.1.items ≡ user → i < 9223372036854775808
      → IsFew (unwrap_or (get key_order m key) no_jobs)
  counted-few i m key user so_far number name low =
      few-jobs (take i all_jobs) key.1.items (unwrap_or (get key_order m key) no_jobs) (so_far.counts key (keyed settings key user number name))
      (omega (arith, low, length-take-most i all_jobs))

  pub counted-next : (i : ℕ) (m n : BTreeMap Key JobCounts) (key : Key) (user : List ℕ) (standing : Stage) (state : JobState) → CountedTo i m
      → option_map (λ (job : Job). job.user) (slice_get jobs i) ≡ Some user
      → option_map (λ (job : Job). job.standing) (slice_get jobs i) ≡ Some standing → state ≡ state_of standing
      → key.0 ≡ priority_of user settings → key.1.items ≡ user
      → n.entries ≡ insert_entry key_order m.entries key (one_more state (unwrap_or (get key_order m key) no_jobs))
      → Updates key_order m n key (Some (one_more state (unwrap_or (get key_order m key) no_jobs)))
      → CountedTo (i + 1) n
  counted-next i m n key user standing state so_far owner stands is number name entries updates =
      subst (λ (js : List UserJob). IsTally settings (user_names settings js) js n) (sym grown)
      (subst (λ (users : List (List ℕ)). IsTally settings users (take i all_jobs ++ keyed_job key state ∷ []) n) users
      (tally-next settings (user_names settings (take i all_jobs)) (take i all_jobs) (take i all_jobs ++ keyed_job key state ∷ []) m n so_far key
      (one_more state (unwrap_or (get key_order m key) no_jobs)) of_key entries updates own
      (λ other apart. other-same (take i all_jobs) (keyed_job key state) other apart)))
    where
      of_key : Numbered settings key
      of_key = keyed settings key user number name

      grown : take (i + 1) all_jobs ≡ take i all_jobs ++ keyed_job key state ∷ []
      grown =
          take-next user_job jobs i (keyed_job key state) (read-of (slice_get jobs i) key.1.items standing state (owner ∙ ap (λ u. Some u) (sym name)) stands
          is)

      users : user_names settings (take i all_jobs) ++ key.1.items ∷ [] ≡ user_names settings (take i all_jobs ++ keyed_job key state ∷ [])
      users =
          append_assoc (set_names settings) (map (λ (j : UserJob). j.user) (take i all_jobs)) (key.1.items ∷ [])
          ∙ ap (λ l. set_names settings ++ l) (sym (names-last (take i all_jobs) (keyed_job key state)))

      own : one_more state (unwrap_or (get key_order m key) no_jobs) ≡ counts_of (take i all_jobs ++ keyed_job key state ∷ []) key.1.items
      own = ap (one_more state) (so_far.counts key of_key)
          ∙ sym (own-more (take i all_jobs) (keyed_job key state) key.1.items ((bytes_eq-Decides key.1.items key.1.items).1 refl))

  pub counted-all : (i : ℕ) (m : BTreeMap Key JobCounts) → CountedTo i m → length jobs ≤ i
      → IsTally settings (user_names settings all_jobs) all_jobs m
  counted-all i m so_far low =
      subst (λ (js : List UserJob). IsTally settings (user_names settings js) js m) (take_all i all_jobs (omega (arith, low, length-map jobs user_job))) so_far
