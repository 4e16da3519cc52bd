use Rattle.std.proofs.Common.{◌≡◌, ap, inr, refl, Result, Ok, Err}
use Rattle.std.specs.declared.io.Error.{Error}
use Rattle.moka_replay.specs.Replay.{Reading, Answers}
use Rattle.moka_replay.proofs.replay.replay_opened.Goals as goal

-- an input that could not be opened answers its error
answers_error : {R : Type 0} (gives : R → Reading → R → Type 0) (input : Result R Error) (error : Error) → input ≡ Err error → Answers gives input (Err error)
answers_error gives (Ok source) error same = cc
answers_error gives (Err why) error same = let again : error ≡ why = cc in ap Err again

pub returns-in-Err : goal.returns-in-Err
returns-in-Err g c = (Err c.in-Err.error, answers_error g.R.Source.gives c.args.input c.in-Err.error c.in-Err.is, inr (c.from.result, c.from.ensures, c.tell.ensures, refl))
