use Rattle.std.proofs.Common.{arith}
use Rattle.pc_account.proofs.FrontTaken.{none-taken, some-taken, pull-fits}
use Rattle.pc_account.proofs.taking.take.Goals as goal

pub returns-then-count-eq0-clause-told : goal.returns-then-count-eq0-clause-told
returns-then-count-eq0-clause-told c =
    let state = c.args.holdings.now in
    none-taken state.held state.next c.args.room c.requires.canonical c.args.mails.now c.requires.wish.0 c.requires.wish.1 c.of_mails-parcels.result c.as_slice.result.now c.longest_front-count.result c.of_mails-parcels.ensures.parcels c.as_slice.ensures.value c.longest_front-count.ensures.count c.longest_front-count.ensures.bound c.if-count-eq0.true

pub returns-clause-told : goal.returns-clause-told
returns-clause-told c =
    let state = c.args.holdings.now in
    let some = c.if-count-eq0.false in
    some-taken state.held state.next c.args.room c.requires.canonical c.args.mails.now c.requires.wish.0 c.requires.wish.1 c.of_mails-parcels.result c.as_slice.result.now c.longest_front-count.result c.of_mails-parcels.ensures.parcels c.as_slice.ensures.value c.longest_front-count.ensures.count c.longest_front-count.ensures.bound (omega (arith, some)) c.index-mails-count.result c.in_ok-letters.letters c.in_ok-letters.ensures

pub returns-clause-fits : goal.returns-clause-fits
returns-clause-fits c =
    let state = c.args.holdings.now in
    let some = c.if-count-eq0.false in
    pull-fits state.held state.next c.args.room c.requires.canonical c.args.mails.now c.requires.wish.0 c.requires.wish.1 c.of_mails-parcels.result c.as_slice.result.now c.longest_front-count.result c.of_mails-parcels.ensures.parcels c.as_slice.ensures.value c.longest_front-count.ensures.count c.longest_front-count.ensures.bound (omega (arith, some)) c.index-mails-count.result c.in_ok-letters.letters c.in_ok-letters.ensures c.of_mails-parcels.ensures.fits
