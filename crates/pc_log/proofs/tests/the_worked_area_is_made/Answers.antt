use Rattle.pc_log.proofs.tests.the_worked_area_is_made.Goals as goal

pub append-requires-2-clause-stands : goal.append-requires-2-clause-stands
append-requires-2-clause-stands g c told =
    let made = c.in_ok-log.ensures.stands told in
    let prepared = c.in_ok-prepare.ensures.stands told _ _ made in
    let appended = c.in_ok-append.ensures.stands told _ _ prepared in
    let again = c.in_ok-prepare-2.ensures.stands told _ _ appended in
    (_, _, again)
