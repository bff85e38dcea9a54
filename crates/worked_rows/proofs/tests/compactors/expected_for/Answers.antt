use Rattle.worked_rows.proofs.tests.compactors.expected_for.Goals as goal

pub returns-clause-fits : goal.returns-clause-fits
returns-clause-fits g c =
    let fits = rw c.expect.ensures at c.compact_expected.ensures.fits in
    fits c.args.joined.now c.requires.joined
