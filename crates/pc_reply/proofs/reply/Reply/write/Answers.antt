use Rattle.std.proofs.Common.{sym, ◌∙◌}
use Rattle.std.proofs.lemmas.Result.{err_from_is_err_and}
use Rattle.pc_reply.proofs.ReplyLemmas.{written_is_reply, head_stops, list_ends}
use Rattle.pc_reply.proofs.reply.Reply.write.Goals as goal

pub returns-in_err-write_line-clause-content : goal.returns-in_err-write_line-clause-content
returns-in_err-write_line-clause-content g c =
    let p = err_from_is_err_and c.from_residual.result c.from_residual.ensures.1 in
    rw p.1 (head_stops c.args.self.now c.bytes.result.now _ _ (c.bytes.ensures.value ∙ c.text.ensures) c.in_err-write_line.ensures.content)

pub returns-in_err-write_line-clause-reply : goal.returns-in_err-write_line-clause-reply
returns-in_err-write_line-clause-reply g c =
    written_is_reply c.args.self.now

pub returns-then-not-has_list-clause-reply : goal.returns-then-not-has_list-clause-reply
returns-then-not-has_list-clause-reply g c =
    written_is_reply c.args.self.now

pub returns-clause-content : goal.returns-clause-content
returns-clause-content g c =
    list_ends c.args.self.now c.bytes.result.now _ _ _ c.write_body.result (sym c.has_list.ensures ∙ c.if-not-has_list.false) (c.bytes.ensures.value ∙ c.text.ensures) c.in_ok-write_line.ensures.content c.write_body.ensures.content

pub returns-clause-reply : goal.returns-clause-reply
returns-clause-reply g c =
    written_is_reply c.args.self.now
