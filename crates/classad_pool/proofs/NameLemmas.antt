-- The names of mailboxes that are put on a desk one after the other.
use Rattle.std.proofs.Common.{◌≡◌, ℕ, zero, suc, ◌+◌, ◌<◌, List, [], ◌∷◌, ◌++◌, length, map, slice_index_or, take, refl, ap, sym, ◌∙◌, add-one, arith}
use Rattle.std.proofs.lemmas.List.{map-append}
use Rattle.notice_desk.specs.declared.entry.Entry.{Entry}
use Rattle.notice_desk.specs.Desk.{Row, names_of, new_row}
use Rattle.notice_desk.specs.Mail.{Taking}
use Rattle.notice_desk.specs.Sight.{Sight, entry_names, rows_of}
use Rattle.pool_engine.specs.declared.mail.Mail.{Mail}

abbrev pub mail_names : List Mail → List (List ℕ)
mail_names mails = map (λ (mail : Mail). mail.name) mails

-- those of one mailbox more
more_names : (mails : List Mail) (k : ℕ) (mail : Mail) → k < length mails → mail ≡ slice_index_or mails k mail
    → mail_names (take (k + 1) mails) ≡ mail_names (take k mails) ++ mail.name ∷ []
more_names mails k mail within at = ap (λ n. mail_names (take n mails)) (add-one k) ∙ by mails k within at
  where
    by : (ms : List Mail) (k : ℕ) → k < length ms → mail ≡ slice_index_or ms k mail → mail_names (take (suc k) ms) ≡ mail_names (take k ms) ++ mail.name ∷ []
    by [] k within e = absurd (omega (arith, within))
    by (m ∷ ms) zero within e = ap (λ (it : Mail). it.name ∷ []) (sym e)
    by (m ∷ ms) (suc k) within e = ap (λ (ns : List (List ℕ)). m.name ∷ ns) (by ms k (omega (arith, within)) e)

module _ {X : Type 0} {F : X → Type 0} (see : Sight X F) where
  -- rows have the names of their entries
  pub rows-named : (entries : List (Entry X F)) → names_of (rows_of see entries) ≡ entry_names entries
  rows-named [] = refl
  rows-named (entry ∷ entries) = ap (λ (ns : List (List ℕ)). entry.name ∷ ns) (rows-named entries)

  -- a desk that has the names of some mailboxes, and one row more
  pub names-next : (mails : List Mail) (k : ℕ) (mail : Mail) (name : List ℕ) (old new : List (Entry X F)) (taking : Taking)
      → k < length mails → mail ≡ slice_index_or mails k mail → name ≡ mail.name → entry_names old ≡ mail_names (take k mails)
      → rows_of see new ≡ rows_of see old ++ new_row name taking ∷ []
      → entry_names new ≡ mail_names (take (k + 1) mails)
  names-next mails k mail name old new taking within at is named push =
      sym (rows-named new) ∙ ap names_of push ∙ map-append (λ (row : Row). row.name) (rows_of see old) (new_row name taking ∷ [])
      ∙ ap (λ (ns : List (List ℕ)). ns ++ name ∷ []) (rows-named old ∙ named) ∙ ap (λ (n : List ℕ). mail_names (take k mails) ++ n ∷ []) is
      ∙ sym (more_names mails k mail within at)
