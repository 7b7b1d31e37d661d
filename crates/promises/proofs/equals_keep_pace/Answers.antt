use Rattle.promises.proofs.Nearest.{equals-keep-pace}
use Rattle.promises.proofs.equals_keep_pace.Goals as goal

pub returns : goal.returns
returns c = equals-keep-pace
