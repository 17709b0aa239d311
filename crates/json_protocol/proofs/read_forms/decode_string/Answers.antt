use Rattle.json_protocol.specs.ReadForms.{blob_decoded, text_decoded}
use Rattle.json_protocol.proofs.read_forms.decode_string.Goals as goal

pub returns-in_ok-text-in-Text-clause-found : goal.returns-in_ok-text-in-Text-clause-found
returns-in_ok-text-in-Text-clause-found c =
    let scan = c.read_text in
    let text = c.in_ok-text-in-Text in
    rw c.in-Text.is (text_decoded c.args.frame.now scan.new.room c.args.at text.text.size text.text.behind scan.result text.ensures.0 text.ensures.1 scan.ensures.shorter scan.ensures.exact)

pub returns-in_ok-blob-in-Blob-clause-found : goal.returns-in_ok-blob-in-Blob-clause-found
returns-in_ok-blob-in-Blob-clause-found c =
    let scan = c.read_blob in
    let blob = c.in_ok-blob-in-Blob in
    rw c.in-Blob.is (blob_decoded c.args.frame.now scan.new.room c.args.at blob.blob.size blob.blob.behind scan.result blob.ensures.0 blob.ensures.1 scan.ensures.exact)
