-- The words of a command line two by two: an option and its value, and the words behind them.
use Rattle.std.proofs.Common.{◌≡◌, ℕ, ◌<◌, ◌≤◌, true, false, ◌==◌, List, [], ◌∷◌, ◌++◌, length, get_or, drop, Option, None}
use Rattle.std.proofs.Common.{refl, sym, ◌∙◌, ap, subst, arith, append_assoc}
use Rattle.std.specs.Str.{bytes_eq}
use Rattle.std.specs.Prelude.{codes}
use Rattle.pool_engine.specs.Mails.{has_mail, is_named, mail_of, mails_of, with_mail}
use Rattle.pool_engine.specs.declared.mail.Mail.{Mail}
use Rattle.pool_engine.specs.Options.{are_options, count_of, is_option}

pub has_mail-next : (name : List ℕ) (words : List (List ℕ)) (value d : List ℕ) → 2 ≤ length words → value ≡ get_or words 1 d
    → is_named name (mail_of value) ≡ false → has_mail name words ≡ has_mail name (drop 2 words)
has_mail-next name [] value d two is other = absurd (omega (arith, two))
has_mail-next name (x ∷ []) value d two is other = absurd (omega (arith, two))
has_mail-next name (x ∷ y ∷ words) value d two is other =
    let none : is_named name (mail_of y) ≡ false = subst (λ (v : List ℕ). is_named name (mail_of v) ≡ false) is other in rw none refl

pub has_mail-none : (name : List ℕ) (words : List (List ℕ)) → length words < 2 → has_mail name words ≡ false
has_mail-none name [] few = refl
has_mail-none name (x ∷ []) few = refl
has_mail-none name (x ∷ y ∷ words) few = absurd (omega (arith, few))

pub count_of-next : (words : List (List ℕ)) (option d : List ℕ) → 2 ≤ length words → option ≡ get_or words 0 d
    → bytes_eq option (codes "--generate") ≡ false → count_of words ≡ count_of (drop 2 words)
count_of-next [] option d two is other = absurd (omega (arith, two))
count_of-next (x ∷ []) option d two is other = absurd (omega (arith, two))
count_of-next (x ∷ y ∷ words) option d two is other =
    let none : bytes_eq x (codes "--generate") ≡ false = subst (λ (o : List ℕ). bytes_eq o (codes "--generate") ≡ false) is other in rw none refl

pub count_of-none : (words : List (List ℕ)) → length words < 2 → count_of words ≡ None
count_of-none [] few = refl
count_of-none (x ∷ []) few = refl
count_of-none (x ∷ y ∷ words) few = absurd (omega (arith, few))

pub are_options-next : (words : List (List ℕ)) (option value d e : List ℕ) → 2 ≤ length words → option ≡ get_or words 0 d
    → value ≡ get_or words 1 e → is_option option value (drop 2 words) ≡ true → are_options words ≡ are_options (drop 2 words)
are_options-next [] option value d e two first second one = absurd (omega (arith, two))
are_options-next (x ∷ []) option value d e two first second one = absurd (omega (arith, two))
are_options-next (x ∷ y ∷ words) option value d e two first second one =
    let here : is_option x value words ≡ true = subst (λ (o : List ℕ). is_option o value words ≡ true) first one in
    let both : is_option x y words ≡ true = subst (λ (v : List ℕ). is_option x v words ≡ true) second here in
    rw both refl

pub are_options-few : (words : List (List ℕ)) → length words < 2 → are_options words ≡ (length words == 0)
are_options-few [] few = refl
are_options-few (x ∷ []) few = refl
are_options-few (x ∷ y ∷ words) few = absurd (omega (arith, few))

pub mails_of-next : (words : List (List ℕ)) (value d : List ℕ) (mail : Option Mail) → 2 ≤ length words → value ≡ get_or words 1 d
    → mail ≡ mail_of value → mails_of words ≡ with_mail mail (mails_of (drop 2 words))
mails_of-next [] value d mail two second is = absurd (omega (arith, two))
mails_of-next (x ∷ []) value d mail two second is = absurd (omega (arith, two))
mails_of-next (x ∷ y ∷ words) value d mail two second is = ap (λ (o : Option Mail). with_mail o (mails_of words)) (ap mail_of (sym second) ∙ sym is)

-- a mailbox is put behind others
pub mails-pushed : (all before after rest : List Mail) (mail : Mail) → all ≡ before ++ mail ∷ rest → after ≡ before ++ mail ∷ []
    → all ≡ after ++ rest
mails-pushed all before after rest mail is pushed = is ∙ sym (append_assoc before (mail ∷ []) rest) ∙ ap (λ (l : List Mail). l ++ rest) (sym pushed)
