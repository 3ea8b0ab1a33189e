use Rattle.std.proofs.Common.{◌≡◌, ◌++◌, OnOk, ℕ, List, codes, sym, subst}
use Rattle.pool_replies.specs.Replies.{name_line, reply_text}
use Rattle.pool_replies.specs.declared.reply.Reply.{Reply}
use Rattle.pool_replies.proofs.reply.append_reply.Goals as goal

pub returns-in-Advertised : goal.returns-in-Advertised
unfolding reply_text
returns-in-Advertised c =
    subst (λ (r : Reply). OnOk c.append_name_line.result (c.append_name_line.new.out ≡ c.args.out.now ++ reply_text r)) (sym c.in-Advertised.is)
    (subst (λ (name : List ℕ). OnOk c.append_name_line.result (c.append_name_line.new.out ≡ c.args.out.now ++ name_line (codes "advertised ") name))
    c.bytes.ensures c.append_name_line.ensures)

pub returns-in-Unlistened : goal.returns-in-Unlistened
unfolding reply_text
returns-in-Unlistened c =
    subst (λ (r : Reply). OnOk c.append_name_line-in-Unlistened.result (c.append_name_line-in-Unlistened.new.out ≡ c.args.out.now ++ reply_text r))
    (sym c.in-Unlistened.is)
    (subst (λ (name : List ℕ). OnOk c.append_name_line-in-Unlistened.result
    (c.append_name_line-in-Unlistened.new.out ≡ c.args.out.now ++ name_line (codes "unlistened ") name)) c.bytes-in-Unlistened.ensures
    c.append_name_line-in-Unlistened.ensures)
