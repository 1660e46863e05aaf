use Rattle.write_numbers.proofs.Stored.{put_all}
use Rattle.write_numbers.proofs.Walked.{fit_length}
use Rattle.write_numbers.proofs.NumberList.put.Goals as goal

pub returns : goal.returns
returns c = put_all _ c.args.self.now.numbers.now (fit_length _ c.args.self.now.numbers.now c.args.self.now.listed.fit) c.args.out.now c.requires _ c.size.result _ _ _ c.size.ensures.0 c.put_u32.ensures (rw c.from.ensures at c.put_u8.ensures) c.put_numbers.ensures
