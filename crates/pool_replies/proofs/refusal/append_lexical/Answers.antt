use Rattle.std.proofs.Common.{◌≡◌, ◌++◌, ◌∷◌, [], ℕ, List, codes, decimal, ◌∙◌, ap}
use Rattle.std.proofs.lemmas.Result.{on_ok_weaker}
use mathlib.Core.List.{append_assoc}
use Rattle.ad_lexer.specs.FaultNumbers.{kind_number}
use Rattle.pool_replies.proofs.refusal.append_lexical.Goals as goal

-- a text that is appended in two parts
in_parts : (old a b first c d e now : List ℕ) → first ≡ old ++ a ++ b → now ≡ first ++ c ++ d ++ e → now ≡ old ++ (a ++ b ++ c ++ d ++ e)
in_parts old a b first c d e now first_is now_is =
    now_is ∙ ap (λ l. l ++ c ++ d ++ e) (first_is ∙ append_assoc old a b)
    ∙ ap (λ l. l ++ d ++ e) (append_assoc old (a ++ b) c) ∙ ap (λ l. l ++ e) (append_assoc old (a ++ b ++ c) d) ∙ append_assoc old (a ++ b ++ c ++ d) e

pub returns : goal.returns
returns c =
    on_ok_weaker c.append_amount_line.result
    (λ now_is. in_parts c.args.out.now (codes "refused 6 lexical ") (decimal c.from.result) c.append_amount.new.out (codes " at ") (decimal c.from-2.result)
    (10 ∷ []) c.append_amount_line.new.out c.in_ok-append_amount.ensures now_is
    ∙ ap (λ (k : ℕ). c.args.out.now ++ (codes "refused 6 lexical " ++ decimal k ++ codes " at " ++ decimal c.from-2.result ++ 10 ∷ []))
    (c.from.ensures ∙ c.number.ensures)
    ∙ ap (λ (p : ℕ). c.args.out.now ++ (codes "refused 6 lexical " ++ decimal (kind_number c.args.kind) ++ codes " at " ++ decimal p ++ 10 ∷ []))
    c.from-2.ensures)
    c.append_amount_line.ensures
