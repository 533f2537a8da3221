use Rattle.pc_session.proofs.conversing.answer_line.Goals as goal

-- src/conversing.rt:77:1
pub returns-clause-exchange : goal.returns-clause-exchange
returns-clause-exchange g c = c.reply_to.ensures.line c.args.line.now c.request_of-asked.ensures.asks
