use Rattle.test_container.proofs.tests.round_trips.read_back.Goals as goal

pub returns : goal.returns
returns c = (c.read.ensures.ok c.args.header).1 c.to_bytes.ensures.header
