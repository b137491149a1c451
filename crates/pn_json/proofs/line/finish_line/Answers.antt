-- What was written is the text of the value.
use Rattle.std.proofs.Common.{◌≡◌, [], ◌∷◌, ◌++◌, rules}
use Rattle.json.specs.Print.{print}
use Rattle.pn_json.proofs.AppendedTexts.{line_written}
use Rattle.pn_json.proofs.line.finish_line.Goals as goal

pub returns : goal.returns
returns c = λ value has.
    let text : c.push.new.self.items ≡ (c.args.writer.before ++ print c.args.writer.tokens) ++ 10 ∷ [] = search rules in
    line_written value c.args.writer c.push.new.self.items has text
